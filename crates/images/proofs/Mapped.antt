-- A list made of another, entry by entry: the loop or the call that makes it, and lists that come back.
use Prim.Native.Nat.{ℕ, zero, suc, ◌+◌, ◌-◌, ◌≤◌, ◌<◌}
use mathlib.Core.Path.{◌≡◌, refl, sym, subst, ap, ◌∙◌}
use mathlib.Core.Bool.{Bool, true, ◌&&◌}
use mathlib.Core.List.{List, [], ◌∷◌, ◌++◌, map}
use native.Mathlib.Nat.{not-suc-le-zero, le_of_suc-le-suc}
use native.Mathlib.Numerals.{add-one}
use native.Mathlib.Omega.{arith}
use lib.ListN.{length, take, drop, get_or, set, replicate}
use denote.Param.Members.{Mut}
use Rattle.std.specs.Array.{IsMapOf, IsFromFnResultFrom, IsFromFnResult}
use Rattle.std.specs.Fn.{Called}
use Rattle.std.proofs.lemmas.List.{same_lists, get_or-map, length-map}
use lib.Dec.{eqb}
use borrow.Author.Tests.{eqb-true, eqb-false}
use Rattle.lists.specs.Padded.{every}
use Rattle.lists.proofs.Cond.{cases, and_left, and_right, and_both}

module _ {A B : Type 0} (f : A → B) where
  -- made in two parts
  pub joined : (i : ℕ) (l : List A) → map f (take i l) ++ map f (drop i l) ≡ map f l
  joined zero l = refl
  joined (suc i) [] = refl
  joined (suc i) (x ∷ l) = ap (λ (r : List B). f x ∷ r) (joined i l)

module _ {A B : Type 0} (f : A → B) (free : B) where
  -- the first i entries are made, and n places are left
  abbrev pub made : ℕ → ℕ → List A → List B
  made i n l = map f (take i l) ++ replicate n free

  made-next : (d : A) (i n : ℕ) (l : List A) → i < length l → set (made i (suc n) l) i (f (get_or l i d)) ≡ made (suc i) n l
  made-next d i n [] h = absurd (not-suc-le-zero h)
  made-next d zero n (x ∷ l) h = refl
  made-next d (suc i) n (x ∷ l) h = ap (λ (r : List B). f x ∷ r) (made-next d i n l (le_of_suc-le-suc h))

  pub made-step :
      (d : A) (i n : ℕ) (l : List A) (out : List B) (y : B) → length l ≡ n → i < n → out ≡ made i (n - i) l → y ≡ f (get_or l i d)
      → set out i y ≡ made (i + 1) (n - (i + 1)) l
  made-step d i n l out y len h e g =
      let room : n - i ≡ suc (n - suc i) = omega arith in
      rw (e, g, add-one i, room) (made-next d i (n - suc i) l (omega arith))

-- what an array's `map` gives is the map of what its closure computes
pub from-map : {F A B : Type 0} {g : Mut F (A × Unit {0}) B} (f : A → B) (k : F) (n : ℕ) (xs : List A) (ys : List B) → length xs ≡ n → IsMapOf g k xs ys n → ((x : A) (y : B) (p q : F) → Called g p (x, tt) y q → y ≡ f x) → ys ≡ map f xs
from-map f k n [] ys e m h = same_lists ys [] (m.long ∙ sym e) (λ i d l. absurd (omega (arith, m.long)))
from-map f k n (x ∷ xs) ys e m h =
    let long : length ys ≡ length (map f (x ∷ xs)) = m.long ∙ sym e ∙ sym (length-map (x ∷ xs) f) in
    same_lists ys (map f (x ∷ xs)) long
    (λ i d l. let w = m.at i x d (omega (arith, m.long)) in h _ _ _ _ w.2 ∙ sym (get_or-map f (x ∷ xs) i x d (omega (arith, m.long))))

-- an array that `from_fn` makes, by what its closure computes at each place
module _ {F B : Type 0} {g : Mut F (ℕ × Unit {0}) B} (f : F) (v : ℕ → B) (same : (i : ℕ) (y : B) (q : F) → Called g f (i, tt) y q → (q ≡ f) × (y ≡ v i)) where
  placed : (n i : ℕ) (ys : List B) → IsFromFnResultFrom g f ys i n → (j : ℕ) (d : B) → i ≤ j → j < i + n → get_or ys j d ≡ v j
  placed zero i ys r j d h l = absurd (omega arith)
  placed (suc n) i ys r j d h l =
      let s = same i r.1 r.0 r.3 in
      cases (eqb i j)
      (λ e. subst (λ (m : ℕ). get_or ys m d ≡ v m) (eqb-true i j e) (r.2.1 d ∙ s.1))
      (λ e. placed n (i + 1) ys (subst (λ (k : F). IsFromFnResultFrom g k ys (i + 1) n) s.0 r.4) j d (omega (arith, eqb-false i j e)) (omega arith))

  pub from-fn : (n : ℕ) (ys zs : List B) → IsFromFnResult g f ys n → length zs ≡ n → ((i : ℕ) (d : B) → i < n → v i ≡ get_or zs i d) → ys ≡ zs
  from-fn n ys zs r e h = same_lists ys zs (r.long ∙ sym e) (λ i d l. placed n 0 ys r.each i d (omega arith) (omega (arith, r.long)) ∙ h i d (omega (arith, r.long)))

-- there and back
module _ {A B : Type 0} (f : A → B) (g : B → A) where
  pub back : ((x : A) → g (f x) ≡ x) → (l : List A) → map g (map f l) ≡ l
  back h [] = refl
  back h (x ∷ l) = rw (h x, back h l)

  -- of entries that pass a test
  pub back-every : (p : A → Bool) → ((x : A) → p x ≡ true → g (f x) ≡ x) → (l : List A) → every p l ≡ true → map g (map f l) ≡ l
  unfolding every
  back-every p h [] e = refl
  back-every p h (x ∷ l) e = rw (h x (and_left (p x) _ e), back-every p h l (and_right (p x) _ e))

-- every entry that is made passes
pub every_made : {A B : Type 0} (f : A → B) (p : B → Bool) → ((x : A) → p (f x) ≡ true) → (l : List A) → every p (map f l) ≡ true
unfolding every
every_made f p h [] = refl
every_made f p h (x ∷ l) = and_both (p (f x)) _ (h x) (every_made f p h l)

-- the first entries tell all where the others pass
pub every-most : {A : Type 0} (p : A → Bool) (n : ℕ) (l : List A) → every p (drop n l) ≡ true → every p (take n l) ≡ every p l
unfolding every
every-most p zero l e = sym e
every-most p (suc n) [] e = refl
every-most p (suc n) (x ∷ l) e = ap (λ (t : Bool). p x && t) (every-most p n l e)
