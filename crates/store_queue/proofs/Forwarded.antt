-- The byte that the held stores give, by the last store that covers it.
use Rattle.std.proofs.Common.{ℕ, zero, suc, ◌≤◌, ◌^◌, ◌<◌, ◌%◌, ◌≡◌, refl, sym, ◌∙◌, ap, Bool, true, false, not, ltb, List, [], ◌∷◌, reverse, get_or, arith, Option, Some, None, option_map, cond, w32, find}
use Rattle.std.proofs.Math.Nat.{div-one}
use Rattle.std.proofs.lemmas.List.{reverse-append}
use Rattle.std.proofs.lemmas.List.Folds.{find-append}
use Rattle.std.specs.Int.{to_le_bytes}
use borrow.Author.Tests.{leb-true}
use Rattle.lists.specs.Bytes.{byte_of}
use Rattle.lists.specs.Padded.{any, final}
use Rattle.lists.proofs.Bytes.{byte_above}
use Rattle.lists.proofs.Cond.{cases, and_left, and_right}
use Rattle.rules.specs.declared.StoreEntry.{StoreEntry}
use Rattle.rules.specs.Shape.{no_store, is_free_store}
use Rattle.rules.specs.Forward.{older_covers, store_byte}
use Rattle.store_queue.specs.Forwarded.{forwarded}

-- byte k of the four
pub le-byte : (k v : ℕ) → v < 256 ^ 4 → get_or (to_le_bytes w32 v) k 0 ≡ byte_of k v
unfolding byte_of
le-byte zero v h = ap (λ (n : ℕ). n % 256) (sym (div-one v))
le-byte (suc zero) v h = refl
le-byte (suc (suc zero)) v h = refl
le-byte (suc (suc (suc zero))) v h = refl
le-byte (suc (suc (suc (suc k)))) v h = byte_above 4 (suc (suc (suc (suc k)))) v h (omega arith)

module _ {A : Type 0} (p : A → Bool) where
  -- what is found passes
  found-passes : (x : A) (xs : List A) → find p xs ≡ Some x → p x ≡ true
  found-passes x [] e = cc
  found-passes x (y ∷ ys) e = cases (p y)
      (λ t. let z : Some y ≡ Some x = rw t at e in let w : y ≡ x = cc in rw (← w) t)
      (λ t. found-passes x ys (rw t at e))

  final_kept : (x : A) (xs : List A) → any p xs ≡ false → final p x xs ≡ x
  unfolding any final
  final_kept x [] e = refl
  final_kept x (y ∷ ys) e = cases (p y)
      (λ t. cc)
      (λ t. rw t (final_kept x ys (rw t at e)))

  -- the last that passes is the first from the other end
  found-final : (x : A) (xs : List A) → find p (reverse xs) ≡ cond (any p xs) (Some (final p x xs)) None
  unfolding any final
  found-final x [] = refl
  found-final x (y ∷ ys) =
      ap (find p) (reverse-append (y ∷ []) ys)
      ∙ (find-append p (reverse ys) (y ∷ [])
      ∙ rw (found-final (cond (p y) y x) ys)
      (cases (any p ys)
      (λ t. cases (p y) (λ s. rw (t, s)) (λ s. rw (t, s)))
      (λ t. rw (t, final_kept (cond (p y) y x) ys t) (cases (p y) (λ s. rw s) (λ s. rw s)))))

module _ (i a : ℕ) (ss : List StoreEntry) (o : Option StoreEntry) (e : o ≡ find (older_covers i a) (reverse ss)) where
  -- the byte of what the search from the other end found
  pub found-forwarded : option_map (λ s. store_byte s a) o ≡ forwarded i a ss
  unfolding forwarded
  found-forwarded = rw (e, found-final (older_covers i a) no_store ss) (cases (any (older_covers i a) ss) (λ t. rw t) (λ t. rw t))

  -- a store begins at or before a byte that it covers
  pub found-begins : (s : StoreEntry) → o ≡ Some s → s.address ≤ a
  unfolding older_covers
  found-begins s h =
      let t = found-passes (older_covers i a) s (reverse ss) (sym e ∙ h) in
      leb-true s.address a (and_left _ _ (and_right (ltb s.number i) _ (and_right (not (is_free_store s)) _ t)))
