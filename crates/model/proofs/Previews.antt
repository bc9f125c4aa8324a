-- Preview of a reply: what the records of the requested line's set tell is what the rules' reply then does.
use Prim.Native.Nat.{ℕ, ◌*◌, ◌%◌}
use mathlib.Core.Path.{◌≡◌, sym, ◌∙◌, ap}
use mathlib.Core.Bool.{cond, ◌&&◌}
use mathlib.Core.List.{List}
use native.Mathlib.Omega.{arith}
use lib.Dec.{ltb}
use borrow.Author.Tests.{lt-ltb}
use Rattle.lists.proofs.Cond.{cond-then, and_both}
use Rattle.rules.specs.declared.Request.TheVariants.{Line}
use Rattle.rules.specs.Shape.{Hierarchy}
use Rattle.rules.specs.Lines.{preview_of}
use Rattle.rules.specs.Calls.{preview_rule}
use Rattle.rules.proofs.LineFacts.{good-tells}
use Rattle.rules.proofs.QueueView.{parts}
use Rattle.records.specs.declared.Preview as code
use Rattle.records.specs.Records.{has_room, in_table, preview_in, no_preview, preview_given}
use Rattle.records.proofs.Places.{has_room_lem}
use Rattle.records.proofs.Answers.{at_first, set-in-use, set-in-table}
use Rattle.records.proofs.Previews.{preview-is}
use Rattle.model.specs.State.{queues_of, hierarchy_of, outcome_of, Formed}
use Rattle.model.specs.declared.State.{State}
use Rattle.model.specs.declared.Answer.TheVariants.{Previewed}
use Rattle.model.proofs.Facts.{fit-figures}

module _ (s : State) (cache memory : List ℕ) (formed : Formed s cache memory) (l f : ℕ) (asked : s.request ≡ Line l)
    (first : f ≡ cond (has_room s.figures) ((l % s.figures.sets) * s.figures.ways) 0) (n : ℕ) (ways : n ≡ s.figures.ways) (p : code.Preview)
    (told : preview_given p ≡ cond (in_table f n && ltb 0 n) (preview_in s.tags f n) no_preview) where
  abbrev b : Hierarchy
  b = hierarchy_of s cache memory

  given : preview_given p ≡ preview_of b l
  given =
      let g = s.figures in
      let view = parts (queues_of s) b formed in
      let fig = fit-figures s cache memory view.fit in
      let room = has_room_lem g fig.some-set fig.some-way fig.room in
      let at = at_first g l f room first in
      (rw ways at told)
      ∙ (sym (cond-then _ _ (and_both (in_table f g.ways) _ (set-in-table g l f room first) (lt-ltb 0 g.ways fig.some-way)))
      ∙ (ap (λ (f : ℕ). preview_in s.tags f g.ways) at
      ∙ preview-is b l fig.some-way (omega (arith, set-in-use g l f room first, at, fig.room, (good-tells b view.lines).table))))

  pub previewed-state : outcome_of (record { answer = Previewed p; next = s }) cache memory ≡ preview_rule (queues_of s) b
  unfolding preview_rule
  previewed-state = rw (asked, given)
