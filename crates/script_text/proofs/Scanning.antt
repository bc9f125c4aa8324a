-- A line read byte by byte is the line taken apart at its spaces.
use Prim.Native.Nat.{ℕ, zero, suc, ◌+◌, ◌*◌, ◌-◌, ◌≤◌, ◌<◌}
use mathlib.Core.Path.{◌≡◌, refl, ◌∙◌, ap}
use mathlib.Core.Bool.{Bool, true, false, cond, ◌&&◌, ◌||◌}
use mathlib.Core.List.{List, [], ◌∷◌, ◌++◌, append_assoc}
use mathlib.Core.Option.{Option, some, none}
use native.Mathlib.Omega.{arith}
use lib.Dec.{ltb, leb, eqb}
use lib.ListN.{length, take, drop, get_or}
use lib.Seq.{take_all}
use borrow.Author.Tests.{ne_eqb, lt-ltb, le-ltb, le-leb, lt-leb, leb-true, leb-false, ltb-true, eqb-true}
use Rattle.std.specs.Bool.{⊤}
use Rattle.std.specs.Prelude.{Some, None, is_some, unwrap_or, option_and_then}
use Rattle.std.specs.Prelude as code
use Rattle.lists.specs.Padded.{every}
use Rattle.lists.proofs.Cond.{cases, either}
use Rattle.rules.specs.Shape.{top_number}
use Rattle.script.specs.Commands.{first_digit, Command, space, is_digit, joined, words, decimal, also_number, numbers, with_none, named, of_words, command_of, longest_line}
use Rattle.script_text.specs.Reader.{no_number, ended, space_read, grown, digit_read, scan_byte, scanned, named_by}
use Rattle.script_text.specs.declared.reader.Scan.{Scan}
use Rattle.script_text.proofs.TryFold.{tries}

and_none : (t : Bool) → (t && false) ≡ false
and_none true = refl
and_none false = refl

-- what a scan asks for: nothing, where it is malformed
abbrev pub asked : ℕ → code.Option Scan → Option Command
asked c None = none
asked c (Some s) = named_by c s

-- the steps of `try_fold`
pub tries-scanned : (bs : List ℕ) (s : Scan) → tries (λ s b. scan_byte b s) bs s ≡ scanned bs s
unfolding scanned
tries-scanned [] s = refl
tries-scanned (b ∷ bs) s = go (scan_byte b s) (tries-scanned bs)
  where
    go : (o : code.Option Scan) → ((s : Scan) → tries (λ s b. scan_byte b s) bs s ≡ scanned bs s)
        → option_and_then (tries (λ s b. scan_byte b s) bs) o ≡ option_and_then (scanned bs) o
    go None h = refl
    go (Some s) h = h s

-- ---- the whole

-- the value of the digits so far
abbrev so_far : Scan → ℕ
so_far s = unwrap_or s.value 0

-- digits can only make a number larger
decimal-grows : (v : ℕ) (w : List ℕ) → v ≤ decimal v w
unfolding decimal
decimal-grows v [] = omega arith
decimal-grows v (b ∷ w) = omega (arith, decimal-grows (10 * v + (b - first_digit)) w)

-- the numbers that are whole
abbrev taken : ℕ → ℕ → ℕ → ℕ → List ℕ
taken zero x y z = []
taken (suc zero) x y z = z ∷ []
taken (suc (suc zero)) x y z = y ∷ z ∷ []
taken (suc (suc (suc k))) x y z = x ∷ y ∷ z ∷ []

abbrev before : List ℕ → Option (List ℕ) → Option (List ℕ)
before xs none = none
before xs (some ys) = some (xs ++ ys)

-- what the words of the rest make, of which the first goes on with the number that is being read
abbrev current : Scan → List (List ℕ) → Option (List ℕ)
current s [] = none
current s (w ∷ ws) =
    cond ((is_some s.value || ltb 0 (length w)) && (every is_digit w && leb (decimal (so_far s) w) top_number)) (also_number (decimal (so_far s) w) (numbers ws)) none

abbrev meant : ℕ → Scan → List (List ℕ) → Option Command
meant c s ws = named c (before (taken s.count s.x s.y s.z) (current s ws))

abbrev meant_by : ℕ → code.Option Scan → List (List ℕ) → Option Command
meant_by c None ws = none
meant_by c (Some s) ws = meant c s ws

-- what is said of a list of words is said of the words of a line: there is always one
some_word : (P : List (List ℕ) → Type 0) → ((w : List ℕ) (ws : List (List ℕ)) → P (w ∷ ws)) → (bs : List ℕ) → P (words bs)
unfolding words
some_word P h [] = h [] []
some_word P h (b ∷ bs) = either P (eqb b space) (λ _. h [] (words bs)) (λ _. one (words bs))
  where
    one : (l : List (List ℕ)) → P (joined b l)
    one [] = h (b ∷ []) []
    one (w ∷ ws) = h (b ∷ w) ws

or-all : (t : Bool) → (t || true) ≡ true
or-all true = refl
or-all false = refl

-- nothing is meant where a word is no number
meant-none : (c : ℕ) (s : Scan) (w : List ℕ) (ws : List (List ℕ)) → (every is_digit w && leb (decimal (so_far s) w) top_number) ≡ false → none ≡ meant c s (w ∷ ws)
meant-none c s w ws e = rw (e, and_none (is_some s.value || ltb 0 (length w)))

-- a space, and the end
module _ (c x y z : ℕ) where
  abbrev at : code.Option ℕ → ℕ → Scan
  at o n = record { count = n; x = x; y = y; z = z; value = o }

  more : (v : ℕ) (xs : List ℕ) (o : Option (List ℕ)) → before (xs ++ (v ∷ [])) o ≡ before xs (also_number v o)
  more v xs none = refl
  more v xs (some ys) = ap some (append_assoc xs (v ∷ []) ys)

  many : (v : ℕ) (o : Option (List ℕ)) → none ≡ named c (before (x ∷ y ∷ z ∷ []) (also_number v o))
  many v none = refl
  many v (some ys) = refl

  at-space : (o : code.Option ℕ) (n : ℕ) → n ≤ 3 → unwrap_or o 0 ≤ top_number → (w : List ℕ) (ws : List (List ℕ))
      → meant_by c (space_read (at o n)) (w ∷ ws) ≡ meant c (at o n) ([] ∷ w ∷ ws)
  unfolding numbers every decimal
  at-space None n fits h w ws = refl
  at-space (Some v) zero fits h w ws = rw (le-leb v top_number h) (ap (named c) (more v [] (numbers (w ∷ ws))))
  at-space (Some v) (suc zero) fits h w ws = rw (le-leb v top_number h) (ap (named c) (more v (z ∷ []) (numbers (w ∷ ws))))
  at-space (Some v) (suc (suc zero)) fits h w ws = rw (le-leb v top_number h) (ap (named c) (more v (y ∷ z ∷ []) (numbers (w ∷ ws))))
  at-space (Some v) (suc (suc (suc zero))) fits h w ws = rw (le-leb v top_number h) (many v (numbers (w ∷ ws)))
  at-space (Some v) (suc (suc (suc (suc k)))) fits h w ws = let no : ⊥ = omega arith in absurd no

  at-end : (o : code.Option ℕ) (n : ℕ) → n ≤ 3 → unwrap_or o 0 ≤ top_number → asked c (space_read (at o n)) ≡ meant c (at o n) ([] ∷ [])
  unfolding numbers every decimal
  at-end None n fits h = refl
  at-end (Some v) zero fits h = rw (le-leb v top_number h)
  at-end (Some v) (suc zero) fits h = rw (le-leb v top_number h)
  at-end (Some v) (suc (suc zero)) fits h = rw (le-leb v top_number h)
  at-end (Some v) (suc (suc (suc zero))) fits h = rw (le-leb v top_number h)
  at-end (Some v) (suc (suc (suc (suc k)))) fits h = let no : ⊥ = omega arith in absurd no

-- what the code keeps of the numbers so far
pub record Fits (s : Scan) : Type 0 where
  pub few : s.count ≤ 3
  pub small : unwrap_or s.value 0 ≤ top_number

abbrev FitsIf : code.Option Scan → Type 0
FitsIf None = ⊤
FitsIf (Some s) = Fits s

space-fits : (s : Scan) → Fits s → FitsIf (space_read s)
space-fits s f = by s.value
  where
    by : (o : code.Option ℕ) → FitsIf (option_and_then (λ v. cond (ltb s.count 3) (Some (ended v s)) None) o)
    by None = tt
    by (Some v) = either FitsIf (ltb s.count 3)
        (λ t. record { few = omega (arith, ltb-true s.count 3 t); small = omega arith })
        (λ _. tt)

-- one byte more of a word
module _ (c b : ℕ) (s : Scan) (f : Fits s) (w : List ℕ) (ws : List (List ℕ)) where
  abbrev Goes : code.Option Scan → Type 0
  Goes r = FitsIf r × (meant_by c r (w ∷ ws) ≡ meant c s ((b ∷ w) ∷ ws))

  goes_none : (every is_digit (b ∷ w) && leb (decimal (so_far s) (b ∷ w)) top_number) ≡ false → Goes None
  goes_none e = (tt, meant-none c s (b ∷ w) ws e)

  goes-grown : is_digit b ≡ true → 10 * so_far s + (b - first_digit) ≤ top_number → Goes (Some (grown (10 * so_far s + (b - first_digit)) s))
  unfolding every decimal
  goes-grown t h = (record { few = f.few; small = h }, rw (t, lt-ltb 0 (suc (length w)) (omega arith), or-all (is_some s.value)))

  goes_over : top_number < 10 * so_far s + (b - first_digit) → (every is_digit (b ∷ w) && leb (decimal (so_far s) (b ∷ w)) top_number) ≡ false
  unfolding decimal
  goes_over h =
      let v = 10 * so_far s + (b - first_digit) in
      rw (lt-leb (decimal v w) top_number (omega (arith, decimal-grows v w))) (and_none (every is_digit (b ∷ w)))

  no_digit : is_digit b ≡ false → (every is_digit (b ∷ w) && leb (decimal (so_far s) (b ∷ w)) top_number) ≡ false
  unfolding every
  no_digit t = rw t

  goes : Goes (cond (is_digit b) (digit_read b s) None)
  goes =
      either Goes (is_digit b)
      (λ t. either Goes (leb (10 * so_far s + (b - first_digit)) top_number)
      (λ l. goes-grown t (leb-true _ top_number l))
      (λ l. goes_none (goes_over (leb-false _ top_number l))))
      (λ t. goes_none (no_digit t))

-- the rest after a byte, by what is said of the rest after a scan that is not malformed
goes-on : (c : ℕ) (rest : List ℕ) → ((s : Scan) → Fits s → asked c (option_and_then space_read (scanned rest s)) ≡ meant c s (words rest))
    → (o : code.Option Scan) → FitsIf o → asked c (option_and_then space_read (option_and_then (scanned rest) o)) ≡ meant_by c o (words rest)
goes-on c rest h None f = refl
goes-on c rest h (Some s) f = h s f

pub reads : (c : ℕ) (rest : List ℕ) (s : Scan) → Fits s → asked c (option_and_then space_read (scanned rest s)) ≡ meant c s (words rest)
unfolding scanned words
reads c [] s f = at-end c s.x s.y s.z s.value s.count f.few f.small
reads c (b ∷ rest) s f = cases (eqb b space)
    (λ e. rw e (goes-on c rest (λ s f. reads c rest s f) (space_read s) (space-fits s f)
    ∙ some_word (λ l. meant_by c (space_read s) l ≡ meant c s ([] ∷ l))
    (λ w ws. at-space c s.x s.y s.z s.value s.count f.few f.small w ws) rest))
    (λ e. let r = cond (is_digit b) (digit_read b s) None in
    rw e (goes-on c rest (λ s f. reads c rest s f) r (goes c b s f [] []).0
    ∙ some_word (λ l. meant_by c r l ≡ meant c s (joined b l)) (λ w ws. (goes c b s f w ws).1) rest))

-- ---- a line

no-fits : Fits no_number
no-fits = record { few = omega arith; small = omega arith }

-- no letter and no numbers is a line with a space for its letter
space-named : (o : Option (List ℕ)) → named space o ≡ none
space-named none = refl
space-named (some []) = refl
space-named (some (x ∷ [])) = refl
space-named (some (x ∷ y ∷ [])) = refl
space-named (some (x ∷ y ∷ z ∷ [])) = refl
space-named (some (x ∷ y ∷ z ∷ u ∷ ns)) = refl

-- the letter, and what follows it
module _ (c : ℕ) where
  pub letter-alone : with_none c ≡ of_words (words (c ∷ []))
  unfolding words numbers
  letter-alone = cases (eqb c space) (λ e. rw (eqb-true c space e)) (λ e. rw e)

  pub letter-joined : (b : ℕ) (rest : List ℕ) → (b ≡ space → ⊥) → none ≡ of_words (words (c ∷ b ∷ rest))
  unfolding words
  letter-joined b rest d = rw (ne_eqb b space d) (either (λ l. none ≡ of_words l) (eqb c space) (λ _. refl) (λ _. two (words rest)))
    where
      two : (l : List (List ℕ)) → none ≡ of_words (joined c (joined b l))
      two [] = refl
      two (w ∷ ws) = refl

  alone : (o : Option (List ℕ)) → named c (before [] o) ≡ named c o
  alone none = refl
  alone (some ys) = refl

  first_word : (ws : List (List ℕ)) → named c (numbers ws) ≡ of_words (cond (eqb c space) ([] ∷ [] ∷ ws) ((c ∷ []) ∷ ws))
  first_word ws = cases (eqb c space)
      (λ e. rw e (rw (eqb-true c space e) (space-named (numbers ws))))
      (λ e. rw e)

  pub letter-spaced : (rest : List ℕ) → asked c (option_and_then space_read (scanned rest no_number)) ≡ of_words (words (c ∷ space ∷ rest))
  unfolding words numbers
  letter-spaced rest =
      reads c rest no_number no-fits
      ∙ some_word (λ l. meant c no_number l ≡ of_words (cond (eqb c space) ([] ∷ [] ∷ l) ((c ∷ []) ∷ l)))
      (λ w ws. alone (numbers (w ∷ ws)) ∙ first_word (w ∷ ws)) rest

-- by the length of the line

pub line-long : (line : List ℕ) → longest_line < length line → none ≡ command_of line
unfolding command_of
line-long line h = rw (lt-ltb longest_line (length line) h)

pub line-empty : (line : List ℕ) → length line ≡ 0 → none ≡ command_of line
unfolding command_of words
line-empty [] e = refl
line-empty (c ∷ line) e = let no : ⊥ = omega arith in absurd no

short : (line : List ℕ) {o : Option Command} → length line ≤ longest_line → o ≡ of_words (words line) → o ≡ command_of line
unfolding command_of
short line h e = rw (le-ltb longest_line (length line) h) e

pub line-one : (line : List ℕ) → length line ≤ longest_line → length line ≡ 1 → with_none (get_or line 0 0) ≡ command_of line
line-one [] h e = let no : ⊥ = omega arith in absurd no
line-one (c ∷ []) h e = short (c ∷ []) h (letter-alone c)
line-one (c ∷ b ∷ line) h e = let no : ⊥ = omega arith in absurd no

pub line-joined : (line : List ℕ) → length line ≤ longest_line → 1 < length line → (get_or line 1 0 ≡ space → ⊥) → none ≡ command_of line
line-joined [] h l d = let no : ⊥ = omega arith in absurd no
line-joined (c ∷ []) h l d = let no : ⊥ = omega arith in absurd no
line-joined (c ∷ b ∷ line) h l d = short (c ∷ b ∷ line) h (letter-joined c b line d)

pub line-spaced :
    (line : List ℕ) → length line ≤ longest_line → 2 ≤ length line → get_or line 1 0 ≡ space → {o p : code.Option Scan}
    → o ≡ scanned (take (length line - 2) (drop 2 line)) no_number → p ≡ option_and_then space_read o → asked (get_or line 0 0) p ≡ command_of line
line-spaced [] h l e f g = let no : ⊥ = omega arith in absurd no
line-spaced (c ∷ []) h l e f g = let no : ⊥ = omega arith in absurd no
line-spaced (c ∷ b ∷ line) h l e f g =
    let all : take (suc (suc (length line)) - 2) line ≡ line = take_all _ line (omega arith) in
    rw (g, f, all, e) (short (c ∷ space ∷ line) h (letter-spaced c line))
