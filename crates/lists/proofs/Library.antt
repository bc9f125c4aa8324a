-- The words of std's lists, as chains of iterators give them, beside those of specs/Padded: each of ours is the library's.
use Prim.Native.Nat.{ℕ, zero, suc, ◌+◌, ◌-◌, ◌≤◌}
use mathlib.Core.Path.{◌≡◌, refl, sym, ◌∙◌, ap, subst}
use mathlib.Core.Bool.{Bool, cond}
use mathlib.Core.List.{List, [], ◌∷◌, ◌++◌, map, append-nil}
use native.Mathlib.Omega.{arith}
use lib.ListN.{length, take, drop, set, replicate, length-drop, drop_of_length-le}
use lib.Seq.{drop-cons, take_all}
use borrow.Rule.Slice.PartMut.{put_mid, post_of}
use denote.Param.Members.{Mut, Called}
use denote.Ref.{Bor}
use Rattle.std.specs.List.{list_any, list_all, position_from, find, filter as std_filter}
use Rattle.std.specs.Prelude.{Option, option_map, unwrap_or, Some, None}
use Rattle.std.specs.Array.{MapsFrom, IsMapOf}
use Rattle.std.specs.Iterator.{ChecksAny, ChecksAll, FindsPosition}
use Rattle.std.proofs.Common.{Iter, add-one}
use Rattle.std.proofs.iter.Yields.{fronts}
use Rattle.std.proofs.lemmas.Iterator.{YieldsList-from_slice}
use Rattle.std.proofs.lemmas.Iterator.Search.{any_from_yields_List, all_from_yields_List, position_from_yields_List}
use Rattle.std.proofs.lemmas.Iterator.Adapters.{position_from-zero}
use Rattle.lists.specs.Padded.{any, every, first, position, filter, placed, cut, changed}
use Rattle.lists.proofs.Cond.{cases}
use Rattle.lists.proofs.Loops.{position-high, found-placed, none-placed}

module _ {A : Type 0} (p : A → Bool) where
  -- `any`
  pub any-list : (xs : List A) → list_any p xs ≡ any p xs
  unfolding any
  any-list [] = refl
  any-list (x ∷ xs) = rw (any-list xs) refl

  -- `all`
  pub every-list : (xs : List A) → list_all p xs ≡ every p xs
  unfolding every
  every-list [] = refl
  every-list (x ∷ xs) = rw (every-list xs) refl

  -- `position` with `unwrap_or` of the length
  pub position-from : (i n : ℕ) (xs : List A) → i + length xs ≡ n → unwrap_or (position_from p i xs) n ≡ i + position p xs
  unfolding position
  position-from i n [] h = omega arith
  position-from i n (x ∷ xs) h = cases (p x)
      (λ e. rw e (omega arith))
      (λ e. rw (e, position-from (i + 1) n xs (omega arith)) (omega arith))

  pub position-list : (n : ℕ) (xs : List A) → length xs ≡ n → unwrap_or (position_from p 0 xs) n ≡ position p xs
  position-list n xs h = position-from 0 n xs (omega arith) ∙ omega arith

  -- the place that `position` found is set, or nothing is
  pub position-some : (i : ℕ) (y : A) (xs : List A) → Some i ≡ position_from p 0 xs → set xs i y ≡ placed p y xs
  position-some i y xs e = let k : i ≡ position p xs = ap (λ (r : Option ℕ). unwrap_or r (length xs)) e ∙ position-list (length xs) xs refl in found-placed p xs (length xs) i refl k y

  pub position-none : (y : A) (xs : List A) → None ≡ position_from p 0 xs → xs ≡ placed p y xs
  position-none y xs e = let k : length xs ≡ position p xs = ap (λ (r : Option ℕ). unwrap_or r (length xs)) e ∙ position-list (length xs) xs refl in none-placed p xs (length xs) (length xs) refl k y (omega arith)

  -- from the place that `position` found on, the places give up their entries
  cut-position : (free : A) (xs : List A) → cut p free xs ≡ take (position p xs) xs ++ replicate (length xs - position p xs) free
  unfolding cut position
  cut-position free [] = refl
  cut-position free (x ∷ xs) = cases (p x)
      (λ e. let z : suc (length xs) - 0 ≡ suc (length xs) = omega arith in rw (e, z) refl)
      (λ e.
      let z : suc (length xs) - suc (position p xs) ≡ length xs - position p xs = omega arith in
      rw (e, z, cut-position free xs) refl)

  pub cut-some : (i n : ℕ) (free : A) (xs ys : List A) → length xs ≡ n → ys ≡ replicate (n - i) free → Some i ≡ position_from p 0 xs → put_mid i (n - i) xs ys ≡ cut p free xs
  cut-some i n free xs ys len f e =
      let k : i ≡ position p xs = ap (λ (r : Option ℕ). unwrap_or r (length xs)) e ∙ position-list (length xs) xs refl in
      let low : i ≤ length xs = rw k (position-high p xs) in
      let h : length (drop i xs) ≤ n - i = omega (arith, length-drop i xs) in
      let none : post_of i (n - i) xs ≡ [] = drop_of_length-le (drop i xs) h in
      rw (f, none, append-nil (replicate (n - i) free), ← len, k) (sym (cut-position free xs))

  pub cut-none : (free : A) (xs : List A) → None ≡ position_from p 0 xs → xs ≡ cut p free xs
  cut-none free xs e =
      let k : length xs ≡ position p xs = ap (λ (r : Option ℕ). unwrap_or r (length xs)) e ∙ position-list (length xs) xs refl in
      let all : take (length xs) xs ≡ xs = take_all (length xs) xs (omega arith) in
      let z : length xs - length xs ≡ 0 = omega arith in
      sym (cut-position free xs ∙ rw (← k, all, z) (append-nil xs))

  -- `find` with `unwrap_or`
  pub find-first : (d : A) (xs : List A) → unwrap_or (find p xs) d ≡ first p d xs
  unfolding first
  find-first d [] = refl
  find-first d (x ∷ xs) = cases (p x) (λ e. rw e refl) (λ e. rw (e, find-first d xs) refl)

  -- `find` in a chain, with `unwrap_or`
  pub found-first : (d : A) (xs : List A) (r : Option A) → option_map (λ x. x) r ≡ find p xs → unwrap_or r d ≡ first p d xs
  found-first d xs None e = ap (λ (o : Option A). unwrap_or o d) e ∙ find-first d xs
  found-first d xs (Some x) e = ap (λ (o : Option A). unwrap_or o d) e ∙ find-first d xs

  -- `filter`
  pub filter-list : (xs : List A) → std_filter p xs ≡ filter p xs
  unfolding filter
  filter-list [] = refl
  filter-list (x ∷ xs) = rw (filter-list xs) refl

  -- `map` with a test
  pub map-changed : (g : A → A) (xs : List A) → map (λ x. cond (p x) (g x) x) xs ≡ changed p g xs
  unfolding changed
  map-changed g [] = refl
  map-changed g (x ∷ xs) = rw (map-changed g xs) refl

-- ---- chains over the entries of a slice whose closure is a test, and `map` of an array

module _ {A F : Type 0} {s : Iter A} (g : Mut F (Bor A × Unit {0}) Bool) (p : A → Bool) (f : F) (u : Iter A) (xs : List A) (e : s.rest.now ≡ xs)
    (k : (x : Bor A) (b : Bool) (q : F) → Called g f (x, tt) b q → (q ≡ f) × (b ≡ p x.now)) where
  pub any-chain : (r : Bool) → ChecksAny fronts g s f r u → r ≡ any p xs
  any-chain r h = any_from_yields_List p u f r h (YieldsList-from_slice xs e) k ∙ any-list p xs

  pub every-chain : (r : Bool) → ChecksAll fronts g s f r u → r ≡ every p xs
  every-chain r h = all_from_yields_List p u f r h (YieldsList-from_slice xs e) k ∙ every-list p xs

  pub position-chain : (r : Option ℕ) → FindsPosition fronts g s f r u → r ≡ position_from p 0 xs
  position-chain r h = position_from_yields_List p u f r h (YieldsList-from_slice xs e) k ∙ position_from-zero p xs

module _ {A B F : Type 0} (g : Mut F (A × Unit {0}) B) (h : A → B) (f : F) (k : (x : A) (y : B) (q : F) → Called g f (x, tt) y q → (q ≡ f) × (y ≡ h x)) where
  maps-from : (xs : List A) (ys : List B) (i n : ℕ) → length xs ≡ i + n → length ys ≡ i + n → MapsFrom g f xs ys i n → drop i ys ≡ map h (drop i xs)
  maps-from xs ys i zero a b m =
      let none : drop i xs ≡ [] = drop_of_length-le xs (omega arith) in
      let none′ : drop i ys ≡ [] = drop_of_length-le ys (omega arith) in
      rw (none, none′)
  maps-from xs ys i (suc n) a b (q, x, y, ex, ey, c, m) =
      let next : drop (i + 1) ys ≡ map h (drop (i + 1) xs) =
      maps-from xs ys (i + 1) n (omega arith) (omega arith) (subst (λ (w : F). MapsFrom g w xs ys (i + 1) n) (k x y q c).0 m) in
      let head : drop i xs ≡ x ∷ drop (i + 1) xs = rw (add-one i) (drop-cons xs i x (omega arith) ∙ ap (λ (z : A). z ∷ drop (suc i) xs) ex.0) in
      let head′ : drop i ys ≡ y ∷ drop (i + 1) ys = rw (add-one i) (drop-cons ys i y (omega arith) ∙ ap (λ (z : B). z ∷ drop (suc i) ys) ey.0) in
      rw (head, head′, next) (ap (λ (z : B). z ∷ map h (drop (i + 1) xs)) (k x y q c).1)

  pub mapped-array : (xs : List A) (ys : List B) (n : ℕ) → length xs ≡ n → IsMapOf g f xs ys n → ys ≡ map h xs
  mapped-array xs ys n len m = maps-from xs ys 0 n (omega arith) (omega (arith, m.long)) m.each

module _ {A F : Type 0} (g : Mut F (A × Unit {0}) A) (p : A → Bool) (h : A → A) (f : F) (k : (x : A) (y : A) (q : F) → Called g f (x, tt) y q → (q ≡ f) × (y ≡ cond (p x) (h x) x)) where
  -- `map` that changes the entries that pass a test
  pub mapped-changed : (xs ys : List A) (n : ℕ) → length xs ≡ n → IsMapOf g f xs ys n → ys ≡ changed p h xs
  mapped-changed xs ys n len m = mapped-array g (λ x. cond (p x) (h x) x) f k xs ys n len m ∙ map-changed p h xs
