-- Runs: parts of a run, selections of its calls, and a simulation of a run by the run of some of its calls.
use Prim.Native.Nat.{ℕ, zero, suc}
use mathlib.Core.Path.{◌≡◌, refl, sym, ◌∙◌, ap, ap₂, subst}
use mathlib.Core.Bool.{Bool, true, false, not}
use mathlib.Core.List.{List, [], ◌∷◌, ◌++◌, map, append-nil}
use native.Mathlib.Omega.{arith}
use lib.ListN.{length, replicate, length-replicate, length-map}
use Rattle.lists.specs.Padded.{select}
use Rattle.lists.proofs.Cond.{cases}
use Rattle.rules.specs.Shape.{World}
use Rattle.rules.specs.Calls.{Call, Answer}
use Rattle.rules.specs.Runs.{answer, next, answers, after}
use Rattle.rules.specs.Dropped.{remaining, NoTrace}

-- ---- runs and selections

pub after-append : (xs ys : List Call) (w : World) → after (xs ++ ys) w ≡ after ys (after xs w)
unfolding after
after-append [] ys w = refl
after-append (c ∷ xs) ys w = after-append xs ys (next c w)

pub answers-append : (xs ys : List Call) (w : World) → answers (xs ++ ys) w ≡ answers xs w ++ answers ys (after xs w)
unfolding after answers
answers-append [] ys w = refl
answers-append (c ∷ xs) ys w = ap (λ (r : List Answer). answer c w ∷ r) (answers-append xs ys (next c w))

length-answers : (cs : List Call) (w : World) → length (answers cs w) ≡ length cs
unfolding answers
length-answers [] w = refl
length-answers (c ∷ cs) w = ap suc (length-answers cs (next c w))

module _ {A : Type 0} where
  -- all of a list
  select-all : (xs : List A) (k : ℕ) → length xs ≡ k → select (replicate k true) xs ≡ xs
  unfolding select
  select-all [] zero e = refl
  select-all [] (suc k) e = absurd (omega arith)
  select-all (x ∷ xs) zero e = absurd (omega arith)
  select-all (x ∷ xs) (suc k) e = ap (λ (r : List A). x ∷ r) (select-all xs k (omega arith))

  -- two parts
  select-append : (ms : List Bool) (xs : List A) → length xs ≡ length ms → (ns : List Bool) (ys : List A) → select (ms ++ ns) (xs ++ ys) ≡ select ms xs ++ select ns ys
  unfolding select
  select-append [] [] e ns ys = refl
  select-append [] (x ∷ xs) e ns ys = absurd (omega arith)
  select-append (m ∷ ms) [] e ns ys = absurd (omega arith)
  select-append (true ∷ ms) (x ∷ xs) e ns ys = ap (λ (r : List A). x ∷ r) (select-append ms xs (omega arith) ns ys)
  select-append (false ∷ ms) (x ∷ xs) e ns ys = select-append ms xs (omega arith) ns ys

  -- a middle part of which some is kept
  select-middle :
      (ms : List Bool) (k j : ℕ) (xs ys zs : List A) → length xs ≡ k → length ys ≡ length ms → length zs ≡ j
      → select (replicate k true ++ (ms ++ replicate j true)) (xs ++ (ys ++ zs)) ≡ xs ++ (select ms ys ++ zs)
  select-middle ms k j xs ys zs e f g =
      select-append (replicate k true) xs (e ∙ sym (length-replicate k true)) (ms ++ replicate j true) (ys ++ zs)
      ∙ ap₂ ◌++◌ (select-all xs k e)
      (select-append ms ys f (replicate j true) zs ∙ ap (λ (r : List A). select ms ys ++ r) (select-all zs j g))

-- ---- a simulation

module _ (strike : Call → Bool) where
  -- which calls of a stretch remain
  abbrev pub left : List Call → List Bool
  left cs = map (λ c. not (strike c)) cs

  -- the remaining calls of a stretch from v on, beside all its calls from w on
  pub record Agree (squashed : World → World) (cs : List Call) (w : World) : Type 0 where
    pub answers_agree : select (left cs) (answers cs w) ≡ answers (select (left cs) cs) (squashed w)
    pub end-agrees : after (select (left cs) cs) (squashed w) ≡ squashed (after cs w)

  module _ (squashed : World → World) where
    -- no call
    pub agree-none : {w : World} → Agree squashed [] w
    unfolding after answers select
    agree-none = record { answers_agree = refl; end-agrees = refl }

    -- a struck call in front
    pub agree-struck : (c : Call) (cs : List Call) (w : World) → strike c ≡ true → squashed (next c w) ≡ squashed w → Agree squashed cs (next c w) → Agree squashed (c ∷ cs) w
    unfolding after answers select
    agree-struck c cs w s e a = record {
      answers_agree = rw s (rw e at a.answers_agree);
      end-agrees = rw s (rw e at a.end-agrees);
    }

    -- a remaining call in front
    agree_left : (c : Call) (cs : List Call) (w : World) → strike c ≡ false → answer c (squashed w) ≡ answer c w → next c (squashed w) ≡ squashed (next c w) → Agree squashed cs (next c w) → Agree squashed (c ∷ cs) w
    unfolding after answers select
    agree_left c cs w s e f a = record {
      answers_agree = rw (s, e, f) (ap (λ (r : List Answer). answer c w ∷ r) a.answers_agree);
      end-agrees = rw (s, f) a.end-agrees;
    }

    -- a call that the stripped world does not see; a call that it answers alike
    module _
        (Live : List Call → World → Type 0)
        (later : (c : Call) (cs : List Call) (w : World) → Live (c ∷ cs) w → Live cs (next c w))
        (hides : (c : Call) (cs : List Call) (w : World) → Live (c ∷ cs) w → strike c ≡ true → squashed (next c w) ≡ squashed w)
        (same : (c : Call) (cs : List Call) (w : World) → Live (c ∷ cs) w → strike c ≡ false → (answer c (squashed w) ≡ answer c w) × (next c (squashed w) ≡ squashed (next c w)))
      where
        -- then calls that agree
        pub agree_then : (ds cs : List Call) (w : World) → Live cs w → Agree squashed ds (after cs w) → Agree squashed (cs ++ ds) w
        unfolding after answers select
        agree_then ds [] w l a = a
        agree_then ds (c ∷ cs) w l a =
            let rest : Agree squashed (cs ++ ds) (next c w) = agree_then ds cs (next c w) (later c cs w l) a in
            cases (strike c) (λ s. agree-struck c (cs ++ ds) w s (hides c cs w l s) rest)
            (λ s. agree_left c (cs ++ ds) w s (same c cs w l s).0 (same c cs w l s).1 rest)

        pub agree : (cs : List Call) (w : World) → Live cs w → Agree squashed cs w
        agree cs w l =
            subst (λ (ds : List Call). Agree squashed ds w) (append-nil cs)
            (agree_then [] cs w l agree-none)

  -- the remaining calls of a stretch, alone
  pub record Alone (cs : List Call) (w : World) : Type 0 where
    pub alike : select (left cs) (answers cs w) ≡ answers (select (left cs) cs) w
    pub arrives : after (select (left cs) cs) w ≡ after cs w

  -- where squashing changes neither end
  pub alone : (squashed : World → World) (cs : List Call) (w : World) → squashed w ≡ w → squashed (after cs w) ≡ after cs w → Agree squashed cs w → Alone cs w
  alone squashed cs w before behind a = record { alike = rw before at a.answers_agree; arrives = rw (before, behind) at a.end-agrees }

  -- a stretch within a run
  pub within : (pre stretch post : List Call) (w : World) → Alone stretch (after pre w) → NoTrace strike pre stretch post w
  within pre stretch post w s = record {
    same-answers =
        ap (select ms) (answers-three stretch)
        ∙ select-middle (left stretch) (length pre) (length post) (answers pre w) (answers stretch w₁) (answers post (after stretch w₁))
        (length-answers pre w) (length-answers stretch w₁ ∙ sym (length-map stretch (λ c. not (strike c)))) (length-answers post (after stretch w₁))
        ∙ ap (λ (r : List Answer). answers pre w ++ r) (ap₂ ◌++◌ s.alike (ap (answers post) (sym s.arrives)))
        ∙ sym (answers-three (select (left stretch) stretch))
        ∙ ap (λ (cs : List Call). answers cs w) (sym calls);
    same_end =
        after-three stretch ∙ ap (after post) (sym s.arrives) ∙ sym (after-three (select (left stretch) stretch)) ∙ ap (λ (cs : List Call). after cs w) (sym calls);
  }
    where
      w₁ : World
      w₁ = after pre w

      ms : List Bool
      ms = remaining strike pre stretch post

      calls : select ms (pre ++ (stretch ++ post)) ≡ pre ++ (select (left stretch) stretch ++ post)
      calls = select-middle (left stretch) (length pre) (length post) pre stretch post refl (sym (length-map stretch (λ c. not (strike c)))) refl

      after-three : (cs : List Call) → after (pre ++ (cs ++ post)) w ≡ after post (after cs w₁)
      after-three cs = after-append pre (cs ++ post) w ∙ after-append cs post w₁

      answers-three : (cs : List Call) → answers (pre ++ (cs ++ post)) w ≡ answers pre w ++ (answers cs w₁ ++ answers post (after cs w₁))
      answers-three cs = answers-append pre (cs ++ post) w ∙ ap (λ (r : List Answer). answers pre w ++ r) (answers-append cs post w₁)
