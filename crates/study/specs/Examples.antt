-- Examples of the study, computed by its definition.
use Rattle.std.specs.Prelude.{◌≡◌, true, false, [], ◌∷◌, replicate}
use Rattle.study.specs.Study.{hits, hit_counts, rate_of, study_allowed, studied, scratch_after}

pub record Examples : Type 0 where
  -- lines 0 and 1 in turn, in one set: with one way each evicts the other
  pub in-turn : hit_counts 1 (0 ∷ 1 ∷ 0 ∷ 1 ∷ []) ≡ 0 ∷ 2 ∷ 2 ∷ 2 ∷ []
  -- a hit is a use: line 2 evicts line 1, not line 0, which came first
  pub hit-uses : hits 1 2 (0 ∷ 1 ∷ 0 ∷ 2 ∷ 0 ∷ []) ≡ false ∷ false ∷ true ∷ false ∷ true ∷ []
  -- a line is used when it is fetched
  pub fetch-uses : hits 1 2 (0 ∷ 1 ∷ 2 ∷ 1 ∷ []) ≡ false ∷ false ∷ false ∷ true ∷ []
  -- each number of ways more keeps one line more
  pub in-steps : hit_counts 1 (0 ∷ 0 ∷ 1 ∷ 0 ∷ 1 ∷ 2 ∷ 0 ∷ 3 ∷ 1 ∷ []) ≡ 1 ∷ 3 ∷ 4 ∷ 5 ∷ []
  -- five lines in turn: too many for four ways
  pub five : hit_counts 1 (0 ∷ 1 ∷ 2 ∷ 3 ∷ 4 ∷ 0 ∷ []) ≡ 0 ∷ 0 ∷ 0 ∷ 0 ∷ []
  -- with two sets lines 0 and 1 do not meet, and lines 0 and 2 do
  pub two-sets : hit_counts 2 (0 ∷ 1 ∷ 0 ∷ 2 ∷ 1 ∷ 0 ∷ []) ≡ 2 ∷ 3 ∷ 3 ∷ 3 ∷ []
  -- one hit in 16 lies at 62.5, three at 187.5
  pub one-in-16 : rate_of 1 16 ≡ 63
  pub three-in-16 : rate_of 3 16 ≡ 188
  -- one in 3 lies at 333.3.., two at 666.6..
  pub one-in-3 : rate_of 1 3 ≡ 333
  pub two-in-3 : rate_of 2 3 ≡ 667
  pub all-of-most : rate_of 65536 65536 ≡ 1000
  -- with 64 sets, four lines of the last one
  pub last_set : hit_counts 64 (63 ∷ 127 ∷ 191 ∷ 255 ∷ 63 ∷ []) ≡ 0 ∷ 0 ∷ 0 ∷ 1 ∷ []
  -- whole answers: each rate is that of its count among all items
  pub whole :
      studied (0 ∷ 0 ∷ 1 ∷ 0 ∷ 1 ∷ 2 ∷ 0 ∷ 3 ∷ 1 ∷ []) 1 640
      ≡ record { refusal = 0; hits = 1 ∷ 3 ∷ 4 ∷ 5 ∷ []; rates = 111 ∷ 333 ∷ 444 ∷ 556 ∷ [] }
  pub empty : studied [] 1 640 ≡ record { refusal = 0; hits = replicate 4 0; rates = replicate 4 0 }
  -- an accepted study clears the scratch, of an empty list too
  pub clears : scratch_after (0 ∷ []) 1 (replicate 640 7) ≡ replicate 640 0
  pub empty-clears : scratch_after [] 1 (replicate 640 7) ≡ replicate 640 0
  -- each part of 22 alone, beside what is still allowed: the list
  pub most-items : study_allowed (replicate 65536 0) 1 640 ≡ true
  pub more-items : study_allowed (replicate 65537 0) 1 640 ≡ false
  -- an item, here not the first one
  pub line-4095 : study_allowed (0 ∷ 4095 ∷ []) 1 640 ≡ true
  pub line-4096 : study_allowed (0 ∷ 4096 ∷ []) 1 640 ≡ false
  -- the set count
  pub most-sets : study_allowed (0 ∷ []) 64 640 ≡ true
  pub no-sets : study_allowed (0 ∷ []) 0 640 ≡ false
  pub three-sets : study_allowed (0 ∷ []) 3 640 ≡ false
  -- the scratch
  pub short-scratch : study_allowed (0 ∷ []) 1 639 ≡ false
  pub long-scratch : study_allowed (0 ∷ []) 1 641 ≡ false
  -- a refused study gives 22 and zeros, and leaves the scratch, of whatever length
  pub refused : studied (0 ∷ []) 3 640 ≡ record { refusal = 22; hits = replicate 4 0; rates = replicate 4 0 }
  pub refused-keeps : scratch_after (0 ∷ []) 3 (replicate 640 7) ≡ replicate 640 7
  pub short-keeps : scratch_after (0 ∷ []) 1 (7 ∷ 9 ∷ []) ≡ 7 ∷ 9 ∷ []
