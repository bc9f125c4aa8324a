-- Bytes played one after the other: no byte but LF does more than lengthen the line, and a line held short is played alike.
use Prim.Native.Nat.{ℕ, zero, suc, ◌+◌, ◌*◌, ◌-◌, ◌/◌, ◌≤◌, ◌<◌, min}
use mathlib.Core.Path.{◌≡◌, refl, sym, ◌∙◌, ap, ap₂, subst}
use mathlib.Core.Bool.{Bool, true, false, cond, ◌&&◌}
use mathlib.Core.List.{List, [], ◌∷◌, ◌++◌, append-nil, append_assoc}
use mathlib.Core.Option.{Option, some, none}
use native.Mathlib.Numerals.{add-one}
use native.Mathlib.Omega.{arith}
use lib.Dec.{eqb, ltb, leb}
use lib.ListN.{length, take, drop, get_or, length-append, length-drop}
use lib.Seq.{sets, sets-eq, take_all, take-suc, take-take, take_at, drop_at, drop-drop, get_or-take, take-add, take-append-add, length-take-le, length_paste_head}
use borrow.Author.Tests.{eq-eqb, ltb-true, ltb-false, eqb-true, leb-true, ne_eqb}
use Rattle.lists.specs.Padded.{position}
use Rattle.std.specs.Prelude as code
use Rattle.std.specs.List.{IsFirstMatchOrLen}
use Rattle.std.proofs.lemmas.List.{take_min}
use Rattle.lists.proofs.Cond.{cases, either, and_left, and_right, wrong}
use Rattle.lists.proofs.Loops.{position-high}
use Rattle.rules.specs.Shape.{World}
use Rattle.rules.specs.Calls.{Answer, stored, value, waits, waits_requested, committed, kept, drained, requested, idled, filled, flushed, shown, checkpointed, previewed, refused}
use Rattle.rules.specs.Runs.{StartAnswer, ready, start_refused, start_answer, start_world, answer}
use Rattle.model.specs.declared.State.{State}
use Rattle.script.specs.Commands.{Command, start, make, line_feed, space, held_bytes, command_of}
use Rattle.script.specs.Words.{printed, said, value_word, ready_word, refused_word, idle_word, answer_line, refused_line}
use Rattle.script.specs.Play.{malformed_line, zeros, zero_cache, start_effect, effect, byte_output, after_byte, output, after_bytes, new_player, at_end, played}
use Rattle.script.specs.Play as script
use Rattle.script.proofs.Play.{cuts, held-short}
use Rattle.script_text.specs.Written.{Wrote, longest_word, line_room, in_room}
use Rattle.script_text.proofs.Writing.{wrote_then, wrote_none, printed-short}
use Rattle.script_play.specs.Player.{largest_cache, largest_memory, held_of, player_of, shortened, Lent, laid_in, lent_after, RunAt, run_at, PlayerAt, player_at, is_feed, PlaysCommand, Plays, Holds, roomy, playable, PlaysChunk, with_output, Joined, ChunksPlayed}
use Rattle.script_play.specs.declared.Player.{Player}
use Rattle.script_play.specs.declared.HeldLine.{HeldLine}

-- ---- the lent bytes, wherever an input is cut

lent_cut : (xs ys : List ℕ) (p : script.Player) (l : Lent) → lent_after (xs ++ ys) p l ≡ lent_after ys (after_bytes xs p) (lent_after xs p l)
unfolding after_bytes lent_after
lent_cut [] ys p l = refl
lent_cut (b ∷ xs) ys p l = lent_cut xs ys (after_byte b p) (cond (eqb b line_feed) (laid_in (after_byte b p).run l) l)

-- ---- a line held short

-- two players with the same run, of whose lines the same bytes are held
abbrev Alike : script.Player → script.Player → Type 0
Alike p q = (p.run ≡ q.run) × (take held_bytes p.line ≡ take held_bytes q.line)

take-front : (n : ℕ) (xs ys : List ℕ) → take n (xs ++ ys) ≡ take n (take n xs ++ ys)
take-front zero xs ys = refl
take-front (suc n) [] ys = refl
take-front (suc n) (x ∷ xs) ys = ap (λ (l : List ℕ). x ∷ l) (take-front n xs ys)

same-command : (xs ys : List ℕ) → take held_bytes xs ≡ take held_bytes ys → command_of xs ≡ command_of ys
same-command xs ys e = sym (held-short xs) ∙ ap command_of e ∙ held-short ys

-- a byte keeps them alike, and prints the same
byte-alike : (b : ℕ) (p q : script.Player) → Alike p q → Alike (after_byte b p) (after_byte b q) × (byte_output b p ≡ byte_output b q)
unfolding after_byte byte_output
byte-alike b p q (r, l) =
    let t = ap₂ effect (same-command p.line q.line l) r in
    cases (eqb b line_feed)
    (λ e. rw e ((ap (λ (u : script.Effect). u.run) t, refl), ap (λ (u : script.Effect). u.says) t))
    (λ e. let more = ap (λ (k : List ℕ). take held_bytes (k ++ (b ∷ []))) l in
    rw e ((r, take-front held_bytes p.line (b ∷ []) ∙ more ∙ sym (take-front held_bytes q.line (b ∷ []))), refl))

bytes-alike : (bs : List ℕ) (p q : script.Player) (l : Lent) → Alike p q
    → Alike (after_bytes bs p) (after_bytes bs q) × (output bs p ≡ output bs q) × (lent_after bs p l ≡ lent_after bs q l)
unfolding after_bytes output lent_after
bytes-alike [] p q l a = (a, refl, refl)
bytes-alike (b ∷ bs) p q l a =
    let s = byte-alike b p q a in
    let m : Option World → Lent = λ r. cond (eqb b line_feed) (laid_in r l) l in
    let i = bytes-alike bs (after_byte b p) (after_byte b q) (m (after_byte b p).run) s.0 in
    (i.0, ap₂ (λ (x y : List ℕ). x ++ y) s.1 i.1, i.2 ∙ ap (λ (r : Option World). lent_after bs (after_byte b q) (m r)) s.0.0)

short-alike : (p : script.Player) → Alike (shortened p) p
short-alike p = (refl, take-take held_bytes held_bytes p.line (omega arith))

-- ---- one after the other

pub plays-none : (s : PlayerAt) → length s.player.line ≤ held_bytes → Plays [] s s
unfolding after_bytes output lent_after
plays-none s h =
    record {
      player-after = ap (λ (k : List ℕ). record { run = s.player.run; line = k }) (sym (take_all held_bytes s.player.line h));
      lent-after = refl;
      wrote = wrote_none s.at s.out;
    }

-- the second chunk on what the first one left
chunks-join :
    (xs ys : List ℕ) {s s' s'' : PlayerAt} (out : List ℕ) (at : ℕ)
    → Plays xs s s' → Plays ys (with_output out at s') s'' → Joined xs ys s s' s''
chunks-join xs ys {s} {s'} out at f g =
    let q = after_bytes xs s.player in
    let a : Alike s'.player q = subst (λ (r : script.Player). Alike r q) (sym f.player-after) (short-alike q) in
    let same = bytes-alike ys s'.player q s'.lent a in
    record {
      player-after =
          g.player-after ∙ ap₂ (λ (r : Option World) (k : List ℕ). record { run = r; line = k }) same.0.0 same.0.1
          ∙ ap shortened (sym (cuts xs ys s.player).1);
      lent-after = g.lent-after ∙ same.2 ∙ ap (lent_after ys q) f.lent-after ∙ sym (lent_cut xs ys s.player s.lent);
      printed = (cuts xs ys s.player).0 ∙ ap (λ (k : List ℕ). output xs s.player ++ k) (sym same.1);
    }

-- the same where the output goes on in one buffer
plays-then : (xs ys : List ℕ) {s s' s'' : PlayerAt} → Plays xs s s' → Plays ys s' s'' → Plays (xs ++ ys) s s''
plays-then xs ys {s} {s'} {s''} f g =
    let j = chunks-join xs ys s'.out s'.at f g in
    record {
      player-after = j.player-after;
      lent-after = j.lent-after;
      wrote = subst (λ (k : List ℕ). Wrote s.at k s.out s''.out s''.at) (sym j.printed) (wrote_then f.wrote g.wrote);
    }

-- bytes of the input that go on where others ended
pub plays-on :
    (input : List ℕ) (i n : ℕ) {s s' s'' : PlayerAt}
    → Plays (take i input) s s' → Plays (take n (drop i input)) s' s'' → Plays (take (i + n) input) s s''
plays-on input i n {s} {s'} {s''} f g =
    subst (λ (xs : List ℕ). Plays xs s s'') (sym (take-add i n input)) (plays-then (take i input) (take n (drop i input)) f g)

-- ---- up to the end of a line

other_byte : (b : ℕ) (p : script.Player) → eqb b line_feed ≡ false
    → (byte_output b p ≡ []) × (after_byte b p ≡ record { run = p.run; line = p.line ++ (b ∷ []) })
unfolding byte_output after_byte
other_byte b p e = (rw e, rw e)

-- the bytes before the first LF
abbrev unfed : List ℕ → List ℕ
unfed bs = take (position is_feed bs) bs

module _ (l : Lent) where
  -- they lengthen the line, and do nothing else
  piece : (bs : List ℕ) (p : script.Player)
      → (output (unfed bs) p ≡ []) × (after_bytes (unfed bs) p ≡ record { run = p.run; line = p.line ++ unfed bs }) × (lent_after (unfed bs) p l ≡ l)
  unfolding position output after_bytes lent_after
  piece [] p = (refl, ap (λ (k : List ℕ). record { run = p.run; line = k }) (sym (append-nil p.line)), refl)
  piece (b ∷ bs) p = cases (eqb b line_feed)
      (λ e. rw e (refl, ap (λ (k : List ℕ). record { run = p.run; line = k }) (sym (append-nil p.line)), refl))
      (λ e. let i = piece bs (after_byte b p) in
      let h = other_byte b p e in
      let xs = unfed bs in
      let more : position is_feed (b ∷ bs) ≡ suc (position is_feed bs) = rw e in
      rw more (
        ap₂ (λ (x y : List ℕ). x ++ y) h.0 i.0,
        i.1 ∙ ap (λ (q : script.Player). record { run = q.run; line = q.line ++ xs }) h.1
            ∙ ap (λ (k : List ℕ). record { run = p.run; line = k }) (append_assoc p.line (b ∷ []) xs),
        ap (λ (t : Bool). lent_after xs (after_byte b p) (cond t (laid_in (after_byte b p).run l) l)) e ∙ i.2,
      ))

  -- the LF behind them
  feed : (p : script.Player)
      → (output (line_feed ∷ []) p ≡ (effect (command_of p.line) p.run).says)
      × (after_bytes (line_feed ∷ []) p ≡ record { run = (effect (command_of p.line) p.run).run; line = [] })
      × (lent_after (line_feed ∷ []) p l ≡ laid_in (effect (command_of p.line) p.run).run l)
  unfolding output after_bytes lent_after byte_output after_byte
  feed p = (append-nil _, refl, refl)

-- ---- a line, or a piece of one

module _ (bs : List ℕ) (s : PlayerAt) where
  abbrev k : ℕ
  k = position is_feed bs

  abbrev whole : List ℕ
  whole = s.player.line ++ take k bs

  -- no LF: the line goes on
  held-line : (line : List ℕ) → line ≡ take held_bytes whole
      → Plays (take k bs) s (record { player = record { run = s.player.run; line = line }; lent = s.lent; out = s.out; at = s.at })
  held-line line e =
      let d = piece s.lent bs s.player in
      record {
        player-after = ap (λ (x : List ℕ). record { run = s.player.run; line = x }) e ∙ ap shortened (sym d.1);
        lent-after = sym d.2;
        wrote = subst (λ (x : List ℕ). Wrote s.at x s.out s.out s.at) (sym d.0) (wrote_none s.at s.out);
      }

  -- what a player is in the middle of a line
  abbrev midway : RunAt
  midway = record { run = s.player.run; lent = s.lent; out = s.out; at = s.at }

  -- between two lines
  abbrev between-lines : RunAt → PlayerAt
  between-lines a = record { player = record { run = a.run; line = [] }; lent = a.lent; out = a.out; at = a.at }

  -- an LF: the line is played
  played-line :
      (c : Option Command) (a : RunAt) → k < length bs → get_or bs k 0 ≡ line_feed → c ≡ command_of whole
      → PlaysCommand c midway a → Plays (take (k + 1) bs) s (between-lines a)
  played-line c a h f ce t =
      let d = piece s.lent bs s.player in
      let q : script.Player = record { run = s.player.run; line = whole } in
      let g = feed s.lent q in
      let split = cuts (take k bs) (line_feed ∷ []) s.player in
      let cut : take (k + 1) bs ≡ take k bs ++ (line_feed ∷ []) = rw (add-one, take-suc bs k 0 h, f) in
      let e : effect c s.player.run ≡ effect (command_of q.line) q.run = ap (λ (x : Option Command). effect x s.player.run) ce in
      subst (λ (xs : List ℕ). Plays xs s (between-lines a)) (sym cut)
      (record {
        player-after =
            ap (λ (r : Option World). record { run = r; line = [] }) (t.run-after ∙ ap (λ (x : script.Effect). x.run) e)
            ∙ ap shortened (sym (split.1 ∙ ap (after_bytes (line_feed ∷ [])) d.1 ∙ g.1));
        lent-after =
            t.lent-after ∙ ap (λ (x : script.Effect). laid_in x.run s.lent) e
            ∙ sym (lent_cut (take k bs) (line_feed ∷ []) s.player s.lent ∙ ap₂ (lent_after (line_feed ∷ [])) d.1 d.2 ∙ g.2);
        wrote =
            subst (λ (x : List ℕ). Wrote s.at x s.out a.out a.at)
            (ap (λ (x : script.Effect). x.says) e
            ∙ sym (split.0 ∙ ap₂ (λ (x y : List ℕ). x ++ y) d.0 (ap (output (line_feed ∷ [])) d.1 ∙ g.0))) t.wrote;
      })

-- ---- how long a line's answer is

said-one : (word : List ℕ) (n : ℕ) → length word ≤ longest_word → length (said word (n ∷ [])) ≤ line_room
unfolding said
said-one word n h =
    omega (arith, length-append (word ++ (space ∷ printed n)) (line_feed ∷ []), length-append word (space ∷ printed n), printed-short n)

said-value : (i v : ℕ) → length (said value_word (i ∷ v ∷ [])) ≤ line_room
unfolding said
said-value i v =
    let first = value_word ++ (space ∷ printed i) in
    let both = first ++ (space ∷ printed v) in
    omega (arith, length-append both (line_feed ∷ []), length-append first (space ∷ printed v), length-append value_word (space ∷ printed i), printed-short i, printed-short v)

said-none : (word : List ℕ) → length word ≤ longest_word → length (said word []) ≤ line_room
unfolding said
said-none word h = omega (arith, length-append word (line_feed ∷ []))

answer-short : (a : Answer) → length (answer_line a) ≤ line_room
unfolding answer_line
answer-short (stored i) = said-one _ i (omega arith)
answer-short (value i v) = said-value i v
answer-short (waits i) = said-one _ i (omega arith)
answer-short (waits_requested i) = said-one _ i (omega arith)
answer-short (committed k) = said-one _ k (omega arith)
answer-short (kept k) = said-one _ k (omega arith)
answer-short (drained i) = said-one _ i (omega arith)
answer-short (requested a) = said-one _ a (omega arith)
answer-short idled = said-none idle_word (omega arith)
answer-short (filled a) = said-one _ a (omega arith)
answer-short (flushed k) = said-one _ k (omega arith)
answer-short (shown p bs) = omega arith
answer-short (checkpointed n) = omega arith
answer-short (previewed p) = omega arith
answer-short (refused k) = said-one _ k (omega arith)

effect-short : (c : Option Command) (run : Option World) → length (effect c run).says ≤ line_room
unfolding effect
effect-short none run = said-one refused_word malformed_line (omega arith)
effect-short (some (start f size)) run =
    start-short (start_answer f (zero_cache f) (zeros size)) (start_world f (zero_cache f) (zeros size)) run
  where
    start-short : (a : StartAnswer) (v : World) (r : Option World) → length (start_effect a v r).says ≤ line_room
    start-short ready v r = said-none ready_word (omega arith)
    start-short (start_refused k) v r = said-one refused_word k (omega arith)
effect-short (some (make x)) none = said-one refused_word malformed_line (omega arith)
effect-short (some (make x)) (some w) = answer-short (answer x w)

-- ---- the bytes of a line are held

-- n bytes more, for which there is room
module _ (held n : ℕ) (line xs : List ℕ) (h : held ≤ held_bytes) (len : length line ≡ held_bytes) (e : n ≡ min (held_bytes - held) (length xs)) where
  pub held_all : take (held + n) (sets line held (take n xs)) ≡ take held_bytes (take held line ++ xs)
  held_all =
      ap (take (held + n)) written ∙ take_at (take held line ++ take n xs) _ (held + n) (length_paste_head line held xs n (omega arith) (omega arith))
      ∙ sym (ap (λ (m : ℕ). take m (take held line ++ xs)) whole
      ∙ take-append-add (take held line) xs (held_bytes - held)
      ∙ ap (λ (l : List ℕ). take held line ++ l) (sym (ap (λ (m : ℕ). take m xs) e ∙ take_min (held_bytes - held) xs)))
    where
      written : sets line held (take n xs) ≡ take held line ++ take n xs ++ drop (held + length (take n xs)) line
      written = sets-eq (take n xs) line held (omega (arith, length-take-le n xs (omega arith)))

      whole : held_bytes ≡ length (take held line) + (held_bytes - held)
      whole = omega (arith, length-take-le held line (omega arith))

-- ---- the pieces of an input, each up to its LF

feed-at : (bs : List ℕ) → position is_feed bs < length bs → get_or bs (position is_feed bs) 0 ≡ line_feed
unfolding position
feed-at [] h = let no : ⊥ = omega arith in absurd no
feed-at (b ∷ bs) h = cases (eqb b line_feed)
    (λ e. rw e (eqb-true b line_feed e))
    (λ e. let more : position is_feed (b ∷ bs) ≡ suc (position is_feed bs) = rw e in
    rw more (feed-at bs (let g : suc (position is_feed bs) < suc (length bs) = rw more at h in omega arith)))

-- the first LF, or the end
feed-found : (bs : List ℕ) (k : ℕ) → IsFirstMatchOrLen is_feed bs k → position is_feed bs ≡ k
unfolding position
feed-found [] zero f = refl
feed-found [] (suc k) f = wrong refl (f.0 0 line_feed (omega arith) (omega arith))
feed-found (b ∷ bs) zero f = rw (f.1 (omega arith) b)
feed-found (b ∷ bs) (suc k) f =
    rw (f.0 0 b (omega arith) (omega arith))
    (ap suc (feed-found bs k (λ i d l h. f.0 (suc i) d (omega arith) (omega arith), λ h d. f.1 (omega arith) d)))

-- a piece: it stands at the front of what is left, and ends behind the first LF, or with the input
pub record Piece (rest piece after : List ℕ) (k : ℕ) : Type 0 where
  pub cut : rest ≡ piece ++ after
  pub long : length piece ≡ min (k + 1) (length rest)
  pub found : IsFirstMatchOrLen is_feed rest k
  pub some : 0 < length rest

module _ (rest piece after : List ℕ) (k : ℕ) (p : Piece rest piece after k) where
  place : position is_feed rest ≡ k
  place = feed-found rest k p.found

  front : take (length piece) rest ≡ piece
  front = ap (take (length piece)) p.cut ∙ take_at piece after (length piece) refl

  same : (i : ℕ) → i < length piece → get_or piece i 0 ≡ get_or rest i 0
  same i h = sym (ap (λ (l : List ℕ). get_or l i 0) front) ∙ get_or-take (length piece) rest i 0 h

  abbrev last : ℕ
  last = length piece - 1

  -- what follows it
  pub follows : after ≡ drop (length piece) rest
  follows = sym (ap (drop (length piece)) p.cut ∙ drop_at piece after (length piece) refl)

  inside : length piece ≤ length rest
  inside = omega (arith, p.long)

  -- no LF in what is left: it is all of that
  all : length rest ≤ k → (position is_feed rest ≡ length rest) × (piece ≡ rest)
  all h = (omega (arith, position-high is_feed rest, place), sym front ∙ take_all (length piece) rest (omega (arith, p.long)))

  -- its last byte is an LF
  pub feed-last : get_or piece last 0 ≡ line_feed
      → (position is_feed rest < length rest) × (take last piece ≡ take (position is_feed rest) rest) × (length piece ≡ position is_feed rest + 1)
  feed-last e = cases (ltb k (length rest))
      (λ t. let h = ltb-true k (length rest) t in
      let long : length piece ≡ position is_feed rest + 1 = omega (arith, p.long, place) in
      let at_feed : last ≡ position is_feed rest = omega arith in (
        omega (arith, place),
        ap (take last) (sym front) ∙ take-take last (length piece) rest (omega arith) ∙ ap (λ (n : ℕ). take n rest) at_feed,
        long,
      ))
      (λ t. let h = ltb-false k (length rest) t in
      let long : length piece ≡ length rest = omega (arith, p.long) in
      wrong (eq-eqb _ line_feed (sym (same last (omega (arith, p.some))) ∙ e)) (p.found.0 last 0 (omega arith) (omega (arith, p.some))))

  -- its last byte is none
  pub feed-none : (get_or piece last 0 ≡ line_feed → ⊥) → (position is_feed rest ≡ length rest) × (piece ≡ rest)
  feed-none e = cases (ltb k (length rest))
      (λ t. let h = ltb-true k (length rest) t in
      let long : length piece ≡ k + 1 = omega (arith, p.long) in
      let at_k : last ≡ k = omega arith in
      absurd (e (same last (omega arith) ∙ rw at_k (eqb-true _ line_feed (p.found.1 h 0)))))
      (λ t. all (ltb-false k (length rest) t))

-- ---- the line that goes on at a place

module _ (rest : List ℕ) (player : Player) (cache memory out : List ℕ) (at : ℕ) where
  abbrev s : PlayerAt
  s = player_at player cache memory out at

  -- no LF: the line goes on
  pub piece-held :
      (held : HeldLine) → position is_feed rest ≡ length rest → Holds player.line rest held
      → Plays rest s (player_at (record { run = player.run; line = held }) cache memory out at)
  piece-held held e holds =
      let all : take (position is_feed rest) rest ≡ rest = take_all (position is_feed rest) rest (omega arith) in
      subst (λ (xs : List ℕ). Plays xs s (player_at (record { run = player.run; line = held }) cache memory out at)) all
      (held-line rest s (held_of held) (holds.bytes ∙ ap (λ (xs : List ℕ). take held_bytes (held_of player.line ++ xs)) (sym all)))

  -- an LF: the line is played, and prints one line at most
  pub line-played :
      (run : code.Option State) (bytes cache' memory' out' : List ℕ) (to : ℕ) (c : Option Command)
      → position is_feed rest < length rest → c ≡ command_of (held_of player.line ++ take (position is_feed rest) rest)
      → PlaysCommand c (run_at player.run cache memory out at) (run_at run cache' memory' out' to)
      → (to ≤ at + line_room)
      × Plays (take (position is_feed rest + 1) rest) s (player_at (record { run = run; line = record { bytes = bytes; length = 0 } }) cache' memory' out' to)
  line-played run bytes cache' memory' out' to c short ce plays = (
    omega (arith, plays.wrote.next, effect-short c s.player.run),
    played-line rest s c (run_at run cache' memory' out' to) short (feed-at rest short) ce plays,
  )

-- ---- the input, up to a place

-- the bytes of the input before what is left of it are played
pub record PlayedTo (input rest : List ℕ) (before now : PlayerAt) : Type 0 where
  pub place : ℕ
  pub inside : place ≤ length input
  pub left : rest ≡ drop place input
  pub room : now.at ≤ line_room * place
  pub plays : Plays (take place input) before now

pub played-none : (input rest : List ℕ) (s : PlayerAt) → rest ≡ input → s.at ≡ 0 → length s.player.line ≤ held_bytes → PlayedTo input rest s s
played-none input rest s e z h = record { place = 0; inside = omega arith; left = e; room = omega arith; plays = plays-none s h }

module _ (input rest piece after : List ℕ) (k : ℕ) (p : Piece rest piece after k) (before : PlayerAt) (player : Player) (cache memory out : List ℕ) (at : ℕ)
    (f : PlayedTo input rest before (player_at player cache memory out at)) where
  abbrev n : ℕ
  n = length piece

  fits : f.place + n ≤ length input
  fits = omega (arith, f.inside, inside rest piece after k p, ap length f.left, length-drop f.place input)

  goes-on : after ≡ drop (f.place + n) input
  goes-on = follows rest piece after k p ∙ ap (drop n) f.left ∙ drop-drop n f.place input

  -- there is room for the line that answers
  pub room-left : line_room * length input ≤ length out → at + line_room ≤ length out
  room-left h = omega (arith, f.room, fits, p.long, p.some)

  -- a piece without an LF is held
  pub played-held :
      (held : HeldLine) → (get_or piece (n - 1) 0 ≡ line_feed → ⊥) → Holds player.line piece held
      → PlayedTo input after before (player_at (record { run = player.run; line = held }) cache memory out at)
  played-held held e holds =
      let now = player_at (record { run = player.run; line = held }) cache memory out at in
      let none = feed-none rest piece after k p e in
      let same : rest ≡ take n (drop f.place input) = sym none.1 ∙ sym (front rest piece after k p) ∙ ap (take n) f.left in
      let held-all : Holds player.line rest held = subst (λ (xs : List ℕ). Holds player.line xs held) none.1 holds in
      record {
        place = f.place + n;
        inside = fits;
        left = goes-on;
        room = omega (arith, f.room);
        plays = plays-on input f.place n f.plays
            (subst (λ (xs : List ℕ). Plays xs (player_at player cache memory out at) now) same
            (piece-held rest player cache memory out at held none.0 held-all));
      }

  -- a line is played
  pub played-on :
      (run : code.Option State) (bytes cache' memory' out' : List ℕ) (to : ℕ) (c : Option Command)
      → get_or piece (n - 1) 0 ≡ line_feed → c ≡ command_of (held_of player.line ++ take (n - 1) piece)
      → PlaysCommand c (run_at player.run cache memory out at) (run_at run cache' memory' out' to)
      → PlayedTo input after before (player_at (record { run = run; line = record { bytes = bytes; length = 0 } }) cache' memory' out' to)
  played-on run bytes cache' memory' out' to c e ce did =
      let now = player_at (record { run = run; line = record { bytes = bytes; length = 0 } }) cache' memory' out' to in
      let last = feed-last rest piece after k p e in
      let asked = ce ∙ ap (λ (xs : List ℕ). command_of (held_of player.line ++ xs)) last.1 in
      let line = line-played rest player cache memory out at run bytes cache' memory' out' to c last.0 asked did in
      let same : take (position is_feed rest + 1) rest ≡ take n (drop f.place input) = ap (λ (m : ℕ). take m rest) (sym last.2) ∙ ap (take n) f.left in
      record {
        place = f.place + n;
        inside = fits;
        left = goes-on;
        room = omega (arith, line.0, f.room, last.2);
        plays = plays-on input f.place n f.plays
            (subst (λ (xs : List ℕ). Plays xs (player_at player cache memory out at) now) same line.1);
      }

-- what a line asks for that is held short
pub held-command : (line : HeldLine) (more : List ℕ) (held : HeldLine) → Holds line more held → command_of (held_of held) ≡ command_of (held_of line ++ more)
held-command line more held holds = ap command_of holds.bytes ∙ held-short (held_of line ++ more)

-- ---- what the player promises

take_short : (n : ℕ) (l : List ℕ) → length (take n l) ≤ length l
take_short zero l = omega arith
take_short (suc n) [] = omega arith
take_short (suc n) (x ∷ l) = omega (arith, take_short n l)

-- what the test of the buffers tells
pub roomy-tells : (input : List ℕ) (s : PlayerAt) (t : Bool)
    → t ≡ (leb largest_cache (length s.lent.cache) && (leb largest_memory (length s.lent.memory) && leb (length input) (length s.out / line_room)))
    → t ≡ roomy input s
unfolding roomy
roomy-tells input s t e = e

module _ (input : List ℕ) (s : PlayerAt) where
  pub roomy-bounds : roomy input s ≡ true
      → (largest_cache ≤ length s.lent.cache) × (largest_memory ≤ length s.lent.memory) × (line_room * length input ≤ length s.out)
  unfolding roomy
  roomy-bounds e =
      let r = and_right (leb largest_cache (length s.lent.cache)) _ e in (
        leb-true largest_cache (length s.lent.cache) (and_left _ _ e),
        leb-true largest_memory (length s.lent.memory) (and_left _ _ r),
        omega (arith, leb-true (length input) (length s.out / line_room) (and_right (leb largest_memory (length s.lent.memory)) _ r)),
      )

  pub all-played : {read : ℕ} {s₀ s' : PlayerAt} → roomy input s ≡ true → s₀ ≡ s → read ≡ length input → Plays input s₀ s' → PlaysChunk input s s' read
  unfolding playable
  all-played {read} {s₀} {s'} e q r f =
      let same : playable input s ≡ input = rw e in
      record {
        all = r ∙ ap length (sym same);
        plays = subst (λ (xs : List ℕ). Plays xs s s') (sym same) (subst (λ (x : PlayerAt). Plays input x s') q f);
      }

pub none-played : (input : List ℕ) (p : Player) (cache memory out : List ℕ) → length p.line.bytes ≡ held_bytes
    → roomy input (player_at p cache memory out 0) ≡ false
    → PlaysChunk input (player_at p cache memory out 0) (player_at p cache memory out 0) 0
unfolding playable
none-played input p cache memory out len e =
    let s = player_at p cache memory out 0 in
    let none : playable input s ≡ [] = rw e in
    record {
      all = ap length (sym none);
      plays = subst (λ (xs : List ℕ). Plays xs s s) (sym none) (plays-none s (omega (arith, take_short p.line.length p.line.bytes)));
    }

-- at the end of the input
module _ (p : Player) (at : ℕ) (out : List ℕ) (len : length p.line.bytes ≡ held_bytes) where
  pub ends-empty : p.line.length ≡ 0 → Wrote at (in_room at out (at_end (player_of p [] []))) out out at
  unfolding at_end in_room
  ends-empty e =
      rw e (either (λ (l : List ℕ). Wrote at l out out at) (leb (at + line_room) (length out)) (λ _. wrote_none at out) (λ _. wrote_none at out))

  ends_open : (p.line.length ≡ 0 → ⊥) → refused_line malformed_line ≡ at_end (player_of p [] [])
  unfolding at_end
  ends_open d = rw (ne_eqb (length (held_of p.line)) 0 (λ e. d (empty p.line.length p.line.bytes len e)))
    where
      empty : (n : ℕ) (l : List ℕ) → length l ≡ held_bytes → length (take n l) ≡ 0 → n ≡ 0
      empty zero l h e = refl
      empty (suc n) [] h e = let no : ⊥ = omega arith in absurd no
      empty (suc n) (x ∷ l) h e = let no : ⊥ = omega arith in absurd no

  pub ends-refused : {out' : List ℕ} {r : ℕ} → (p.line.length ≡ 0 → ⊥)
      → Wrote at (in_room at out (refused_line malformed_line)) out out' r → Wrote at (in_room at out (at_end (player_of p [] []))) out out' r
  ends-refused {out'} {r} d w = subst (λ (l : List ℕ). Wrote at (in_room at out l) out out' r) (ends_open d) w

-- ---- a whole input

end_short : (run : Option World) (line : List ℕ)
    → at_end (record { run = run; line = take held_bytes line }) ≡ at_end (record { run = run; line = line })
unfolding at_end
end_short run [] = refl
end_short run (b ∷ line) =
    rw (ne_eqb (length (take held_bytes (b ∷ line))) 0 (λ e. omega arith), ne_eqb (length (b ∷ line)) 0 (λ e. omega arith))

pub chunks-played : ChunksPlayed
unfolding played
chunks-played =
    record {
      joined = λ xs ys out at f g. chunks-join xs ys out at f g;
      ended = λ bytes e f.
          let after = f.player-after ∙ ap (λ (p : script.Player). shortened (after_bytes bytes p)) e in
          ap (λ (k : List ℕ). output bytes new_player ++ k) (ap at_end after ∙ end_short _ _);
    }
