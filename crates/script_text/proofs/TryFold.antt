-- `try_fold` of a chain, at a closure that computes a step: `None` once a step gives none, else what the last one gives.
use Prim.Native.Nat.{suc}
use mathlib.Core.Path.{◌≡◌, refl, sym, ◌∙◌, ap}
use mathlib.Core.List.{List, [], ◌∷◌, ◌++◌, map}
use lib.ListN.{length, take, drop, take-append-drop}
use lib.Seq.{drop-cons}
use denote.Param.Members.{Mut}
use Rattle.std.specs.Prelude.{Option, Some, None, option_and_then, MatchOption}
use Rattle.std.specs.Fn.{Called}
use Rattle.std.specs.Iterator.{YieldsThen}
use Rattle.std.specs.List.{FoldsTo}
use Rattle.std.proofs.lemmas.Fn.{chained_keeps}
use Rattle.std.proofs.lemmas.Iterator.{YieldsList}
use Rattle.std.proofs.lemmas.Iterator.Consumers.{YieldsList-so_far, YieldsList-turn, YieldsList-end}
use Rattle.std.proofs.lemmas.List.{map-append}
use Rattle.std.proofs.lemmas.Option.{MatchOption-at_none, MatchOption-at_some}

module _ {B C : Type 0} (h : C → B → Option C) where
  abbrev pub tries : List B → C → Option C
  tries [] a = Some a
  tries (x ∷ xs) a = option_and_then (tries xs) (h a x)

  tries-append : (xs ys : List B) (a : C) → tries (xs ++ ys) a ≡ option_and_then (tries ys) (tries xs a)
  tries-append [] ys a = refl
  tries-append (x ∷ xs) ys a = go (h a x) (tries-append xs ys)
    where
      go : (o : Option C) → ((a : C) → tries (xs ++ ys) a ≡ option_and_then (tries ys) (tries xs a))
          → option_and_then (tries (xs ++ ys)) o ≡ option_and_then (tries ys) (option_and_then (tries xs) o)
      go None k = refl
      go (Some a) k = k a

  module _ {A F : Type 0} (v : A → B) (g : Mut F (C × (A × Unit {0})) (Option C)) where
    abbrev Turn : F × C → A → F × C → Type 0
    Turn p x q = (w : Option C) × Called g p.0 (p.1, (x, tt)) w q.0 × (w ≡ Some q.1)

    abbrev Broke : Type 0 → Option C → F → C → A → Type 0
    Broke E r q a x = (w : Option C) × (q' : F) × E × Called g q (a, (x, tt)) w q' × (w ≡ None) × (r ≡ None)

    abbrev Computes : F → Type 0
    Computes f = (a : C) (x : A) (w : Option C) (q : F) → Called g f (a, (x, tt)) w q → (q ≡ f) × (w ≡ h a (v x))

    computes : (f p : F) → p ≡ f → Computes f → (a : C) (x : A) (w : Option C) (q : F) → Called g p (a, (x, tt)) w q → (q ≡ f) × (w ≡ h a (v x))
    computes f p e k a x w q t = k a x w q (rw e at t)

    abbrev So : F → C → List A → F × C → Type 0
    So f init xs q = (q.0 ≡ f) × (tries (map v xs) init ≡ Some q.1)

    keeps : (f : F) (init : C) → Computes f → (xs : List A) (p : F × C) (x : A) (q : F × C) → So f init xs p → Turn p x q → So f init (xs ++ (x ∷ [])) q
    keeps f init k xs p x q so t =
        let c = computes f p.0 so.0 k p.1 x t.0 q.0 t.1 in
        (c.0, rw (map-append v xs (x ∷ [])) (tries-append (map v xs) (v x ∷ []) init ∙ rw (so.1, ← c.1, t.2)))

    -- by the clause `ran` and a chain proof
    pub try_fold-list : {S E : Type 0} {steps : S → Option A → S → Type 0} {s : S} {all : List B} {f : F} {init : C} {r : Option C} (u : S)
        → (xs : List A) × (o : Option A) × (q : F) × (a : C) × YieldsThen steps s xs o u × FoldsTo {P = F × C} Turn (f, init) xs (q, a)
        × MatchOption o (r ≡ Some a) (Broke E r q a)
        → YieldsList steps v s all → Computes f → r ≡ tries all init
    try_fold-list {all = all} {f = f} {init = init} {r = r} u ran y k = by ran.1 refl
      where
        so : So f init ran.0 (ran.2, ran.3)
        so = chained_keeps Turn (So f init) (keeps f init k) ran.0 (f, init) (ran.2, ran.3) (refl, refl) ran.5

        by : (o : Option A) → ran.1 ≡ o → r ≡ tries all init
        by None e =
            MatchOption-at_none _ _ e ran.6 ∙ sym so.1 ∙ ap (λ (l : List B). tries l init) (YieldsList-end y ran.0 ran.4.0 ran.4.1 ran.1 u e ran.4.2).0
        by (Some x) e =
            let n = length ran.0 in
            let broke = MatchOption-at_some _ (Broke _ r ran.2 ran.3) x e ran.6 in
            let turn = YieldsList-turn y ran.0 ran.4.0 ran.4.1 ran.1 u x e ran.4.2 in
            let next : drop n all ≡ v x ∷ drop (suc n) all = rw turn.1 (drop-cons all n (v x) turn.0) in
            let bad : h ran.3 (v x) ≡ None = sym (computes f ran.2 so.0 k ran.3 x broke.0 broke.1 broke.3).1 ∙ broke.4 in
            broke.5
            ∙ sym (sym (ap (λ (l : List B). tries l init) (take-append-drop n all)) ∙ tries-append (take n all) (drop n all) init
            ∙ rw (← YieldsList-so_far y ran.0 ran.4.0 ran.4.1, so.1, next, bad))
