-- What the checker computes of the study. Files are checked in the order of their names, this one first: an edited definition meets an
-- example here before it meets a proof.
use mathlib.Core.Path.{refl}
use Rattle.rules.specs.Computed.{computed}
use Rattle.study.specs.Study.{empty_tags, access_line, hits_from, hits, hit_count, hit_counts, rate_of, items_allowed, study_allowed, studied, scratch_after}
use Rattle.study.specs.Examples.{Examples}

pub examples : Examples
unfolding computed empty_tags access_line hits_from hits hit_count hit_counts rate_of items_allowed study_allowed studied scratch_after
examples =
    record {
      in-turn = refl;
      hit-uses = refl;
      fetch-uses = refl;
      in-steps = refl;
      five = refl;
      two-sets = refl;
      one-in-16 = refl;
      three-in-16 = refl;
      one-in-3 = refl;
      two-in-3 = refl;
      all-of-most = refl;
      last_set = refl;
      whole = refl;
      empty = refl;
      clears = refl;
      empty-clears = refl;
      most-items = refl;
      more-items = refl;
      line-4095 = refl;
      line-4096 = refl;
      most-sets = refl;
      no-sets = refl;
      three-sets = refl;
      short-scratch = refl;
      long-scratch = refl;
      refused = refl;
      refused-keeps = refl;
      short-keeps = refl;
    }
