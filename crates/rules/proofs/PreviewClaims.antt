-- Preview of a reply: its four parts are what the fill then does, line by line, byte by byte and age by age; its refusals are the reply's; it
-- changes nothing; and no other call gives one.
use Prim.Native.Nat.{ℕ, ◌+◌, ◌*◌, ◌-◌, ◌%◌, ◌<◌, ◌≤◌}
use mathlib.Core.Path.{◌≡◌, refl, sym, ap, subst, ◌∙◌}
use mathlib.Core.Bool.{Bool, true, false, cond, ◌&&◌}
use mathlib.Core.Option.{Option, some, none}
use native.Mathlib.Omega.{arith}
use native.Mathlib.Decide.{ℕ_discrete, dec_lt}
use lib.ListN.{length, get_or, replicate, length-replicate, get_or-replicate, get_or-eq_default}
use borrow.Author.Tests.{eqb-true, eq-eqb, lt-ltb, le-ltb}
use lib.Dec.{ltb, leb}
use Rattle.lists.proofs.Cond.{either, cases, and_left, and_right, and_both, wrong}
use Rattle.lists.proofs.Counting.{each-length, each_at, each_same}
use Rattle.rules.specs.declared.Tag.{Tag}
use Rattle.rules.specs.declared.LoadEntry.{LoadEntry}
use Rattle.rules.specs.declared.Lookup.{Lookup}
use Rattle.rules.specs.declared.Request.{Request}
use Rattle.rules.specs.declared.Request.TheVariants.{Free, Line}
use Rattle.rules.specs.Shape.{Queues, Hierarchy, World, world, most_ways, line_of, set_of, first_slot, tag_at, requested_line, is_free, fits}
use Rattle.rules.specs.Lines.{slot_of, present, use_slot, way_of, word_of, is_dirty_word, write_back_slot, victim, install, fill_line, victim_way, evicted_line, words_written_back, ages_of, Preview, preview_of, lookup}
use Rattle.rules.specs.Flat.{flat_byte}
use Rattle.rules.specs.Calls.{Call, Answer, Outcome, load, store, retry, commit, abort, idle, reply, flush, show, checkpoint, restore, preview, refused, stored, value, waits, waits_requested, committed, kept, drained, requested, idled, filled, flushed, shown, checkpointed, previewed, is_accepted, next_number, load_answer, load_rule, store_rule, answer_load, retry_with, retry_rule, commit_rule, abort_rule, checkpoint_rule, restore_rule, can_drain, can_request_load, can_request_store, idle_rule, reply_rule, preview_rule, flush_rule, show_rule, rule}
use Rattle.rules.specs.Forward.{load_value}
use Rattle.rules.specs.Runs.{refusal, answer, next}
use Rattle.rules.specs.TagLookup.{PresentIn}
use Rattle.rules.specs.PreviewClaims.{is_evicted, MatchesReply, PredictsReply, PreviewExact, is_preview, NoOtherPreviews}
use Rattle.rules.proofs.Checks.{refusal-by, outcome-by, either-word, rule-accepts, done, refused-exactly}
use Rattle.rules.proofs.QueueView.{parts, good_request}
use Rattle.rules.proofs.Entries.{reply-checked, tried}
use Rattle.rules.proofs.Kept.{request-absent}
use Rattle.rules.proofs.Dirty.{byte_word, no-mark}
use Rattle.rules.proofs.Recency.{use-lines}
use Rattle.rules.proofs.LineFacts.{Good, fits-tells, present-tells, look, byte-valid, good-tells}
use Rattle.rules.proofs.LineSteps.{saved-hit, saved-else, save-lines, install-tag, install-other-tag}
use Rattle.rules.proofs.LineRules.{Filled, save-kept, kept-fits, victim-in, fill-line}
use Rattle.rules.proofs.FlatLines.{flat-here}
use Rattle.rules.proofs.TagLookup.{present-in}

-- a list of zeros
zero-at : (n k : ℕ) → ◌≡◌ {A = ℕ} (get_or (replicate n 0) k 0) 0
zero-at n k =
    elim (dec_lt k n) [
      | yes h ↦ get_or-replicate n k 0 0 h
      | no h ↦ let past : length {A = ℕ} (replicate n 0) ≤ k = omega (arith, length-replicate {A = ℕ} n 0) in get_or-eq_default (replicate n 0) 0 past
    ]

-- ---- the line evicted

module _ (b : Hierarchy) (l : ℕ) where
  abbrev old : Tag
  old = tag_at b.tags (victim b l)

  evicted-some : (m : ℕ) → old.valid ≡ true → old.line ≡ m → evicted_line b l ≡ some m
  unfolding evicted_line
  evicted-some m v e = rw (v, e)

  evicted-tells : (m : ℕ) → evicted_line b l ≡ some m → (old.valid ≡ true) × (old.line ≡ m)
  unfolding evicted_line
  evicted-tells m e = cases old.valid
      (λ v. let s : some old.line ≡ some m = rw v at e in (v, cc))
      (λ v. let s : none ≡ some m = rw v at e in let z : ◌≡◌ {A = ℕ} 0 1 = cc in let no : ⊥ = omega arith in absurd no)

  evicted-none : evicted_line b l ≡ none → old.valid ≡ false
  unfolding evicted_line
  evicted-none e = cases old.valid
      (λ v. let s : some old.line ≡ none = rw v at e in let z : ◌≡◌ {A = ℕ} 0 1 = cc in let no : ⊥ = omega arith in absurd no)
      (λ v. v)

-- ---- the fill of an absent line of memory

module _ (b : Hierarchy) (l : ℕ) (f : fits b ≡ true) (g : Good b) (absent : present b l ≡ false) (inside : 16 * l < b.size) where
  abbrev v : ℕ
  v = victim b l

  abbrev new : Hierarchy
  new = fill_line l b

  fill-good : Filled l b new
  fill-good = fill-line l b f g absent inside

  -- the victim's record then has the line
  here : ((tag_at new.tags v).valid ≡ true) × ((tag_at new.tags v).line ≡ l)
  unfolding fill_line write_back_slot
  here =
      let k = save-kept b (fits-tells b f) g v (victim-in b l (fits-tells b f)).used in
      let same = use-lines (set_of b l) v (install v l (write_back_slot v b)) in
      let t = install-tag (write_back_slot v b) (fits-tells _ (kept-fits b _ f k)) v l (victim-in b l (fits-tells b f)).used k.good in
      (same.valid v ∙ t.0, same.line v ∙ t.1)

  stands_at : slot_of new l ≡ v
  stands_at = (look new fill-good.good.lines v l here.0 here.1).1

  -- another record has the line that it had
  beside : (k : ℕ) → (k ≡ v → ⊥) → ((tag_at new.tags k).valid ≡ (tag_at b.tags k).valid) × ((tag_at new.tags k).line ≡ (tag_at b.tags k).line)
  unfolding fill_line
  beside k d =
      let same = use-lines (set_of b l) v (install v l (write_back_slot v b)) in
      let other = install-other-tag (write_back_slot v b) v l k d in
      let back = save-lines b (fits-tells b f) g v (victim-in b l (fits-tells b f)).used in
      (same.valid k ∙ (ap (λ (t : Tag). t.valid) other ∙ back.valid k), same.line k ∙ (ap (λ (t : Tag). t.line) other ∙ back.line k))

  -- a line that was present and is absent stood in the victim's place
  lost : (m : ℕ) → present b m ≡ true → present new m ≡ false → slot_of b m ≡ v
  lost m p n =
      let at = present-tells b m p in
      let k = slot_of b m in
      elim (ℕ_discrete k v) [
        | yes e ↦ e
        | no d ↦ wrong (look new fill-good.good.lines k m ((beside k d).0 ∙ at.valid) ((beside k d).1 ∙ at.line)).0 n
      ]

  -- the line that stood there is absent then
  gone : (m : ℕ) → (tag_at b.tags v).valid ≡ true → (tag_at b.tags v).line ≡ m → present new m ≡ false
  gone m valid line = cases (present new m)
      (λ p.
      let at = present-tells new m p in
      let k = slot_of new m in
      elim (ℕ_discrete k v) [
        | yes e ↦
            let same : l ≡ m = sym here.1 ∙ (ap (λ (k : ℕ). (tag_at new.tags k).line) (sym e) ∙ at.line) in
            wrong (look b g.lines v l valid (line ∙ sym same)).0 absent
        | no d ↦ absurd (d (g.lines.once k v (sym (beside k d).0 ∙ at.valid) valid (sym (beside k d).1 ∙ (at.line ∙ sym line))))
      ])
      (λ p. p)

  -- ---- memory

  -- byte a is in a word that is written back
  abbrev goes : ℕ → Bool
  goes a = is_evicted (evicted_line b l) (line_of a) && is_dirty_word (words_written_back b l) (word_of a)

  evicted-is : (a : ℕ) → is_evicted (evicted_line b l) (line_of a) ≡ true → ((tag_at b.tags v).valid ≡ true) × ((tag_at b.tags v).line ≡ line_of a)
  evicted-is a = go (evicted_line b l) refl
    where
      go : (o : Option ℕ) → evicted_line b l ≡ o → is_evicted o (line_of a) ≡ true → ((tag_at b.tags v).valid ≡ true) × ((tag_at b.tags v).line ≡ line_of a)
      go none e t = wrong t refl
      go (some m) e t = let h = evicted-tells b l m e in (h.0, h.1 ∙ sym (eqb-true (line_of a) m t))

  is-evicted : (a : ℕ) → (tag_at b.tags v).valid ≡ true → (tag_at b.tags v).line ≡ line_of a → is_evicted (evicted_line b l) (line_of a) ≡ true
  is-evicted a valid line = rw (evicted-some b l (line_of a) valid line) (eq-eqb (line_of a) (line_of a) refl)

  written : (a : ℕ) → goes a ≡ true → get_or new.memory a 0 ≡ flat_byte b a
  unfolding fill_line use_slot install write_back_slot line_of
  written a e =
      let fit = fits-tells b f in
      let at = evicted-is a (and_left _ _ e) in
      let dirty = byte_word (tag_at b.tags v) a ∙ and_right (is_evicted (evicted_line b l) (line_of a)) _ e in
      each_at _ b.memory 0 a (omega (arith, g.lines.inside v at.0, fit.by_lines, fit.memory-long, at.1))
      ∙ (saved-hit (tag_at b.tags v) b.cache v a _ dirty (sym at.1) ∙ sym (flat-here b g.lines v a at.0 at.1))

  unwritten : (a : ℕ) → goes a ≡ false → get_or new.memory a 0 ≡ get_or b.memory a 0
  unfolding fill_line use_slot install write_back_slot
  unwritten a e =
      each_same _ b.memory 0 a (λ x. saved-else (tag_at b.tags v) b.cache v a x (λ d line.
      let valid = byte-valid b g v (a % 16) d in
      wrong (and_both _ _ (is-evicted a valid (sym line)) (sym (byte_word (tag_at b.tags v) a) ∙ d)) e))

  writes : (a : ℕ) → get_or new.memory a 0 ≡ cond (goes a) (flat_byte b a) (get_or b.memory a 0)
  writes a = cases (goes a) (λ e. rw e (written a e)) (λ e. rw e (unwritten a e))

  -- ---- ages

  four-places : length (preview_of b l).ages ≡ most_ways
  unfolding preview_of ages_of
  four-places = each-length _ 0 (replicate most_ways 0) ∙ length-replicate {A = ℕ} most_ways 0

  module _ (k : ℕ) where
    age-at : k < new.figures.ways → get_or (preview_of b l).ages k 0 ≡ (tag_at new.tags (first_slot new l + k)).age
    unfolding preview_of ages_of fill_line use_slot install write_back_slot
    age-at h =
        each_at _ (replicate most_ways 0) 0 k (omega (arith, (fits-tells b f).most-ways, length-replicate {A = ℕ} most_ways 0))
        ∙ rw (lt-ltb k b.figures.ways h)

    no-age : new.figures.ways ≤ k → get_or (preview_of b l).ages k 0 ≡ 0
    unfolding preview_of ages_of
    no-age h = each_same _ (replicate most_ways 0) 0 k (λ x. rw (le-ltb k new.figures.ways h)) ∙ zero-at most_ways k

  -- ---- all of it

  fills-way : PresentIn new l (victim_way b l)
  unfolding way_of fill_line use_slot install write_back_slot
  fills-way = subst (PresentIn new l) (ap (λ (k : ℕ). k - first_slot b l) stands_at) (present-in new l fill-good.here)

  matches : MatchesReply (preview_of b l) l b new
  unfolding preview_of
  matches = record {
    filled-way = fills-way;
    evicted-only = λ m e. let h = evicted-tells b l m e in ((look b g.lines v m h.0 h.1).0, gone m h.0 h.1);
    evicted-whenever = λ m p n.
        let at = present-tells b m p in
        let there = lost m p n in
        evicted-some b l m (ap (λ (k : ℕ). (tag_at b.tags k).valid) (sym there) ∙ at.valid) (ap (λ (k : ℕ). (tag_at b.tags k).line) (sym there) ∙ at.line);
    same-slot = λ m e. let h = evicted-tells b l m e in (look b g.lines v m h.0 h.1).1 ∙ sym stands_at;
    marks = ap (λ (k : ℕ). (tag_at b.tags k).dirty) (sym stands_at);
    four = g.four-marks v;
    none-evicted = λ e. no-mark (tag_at b.tags v) (g.empty v (evicted-none b l e)).0;
    writes = writes;
    places = four-places;
    ages-after = age-at;
    no_way = no-age;
  }

-- ---- the preview

module _ (w : World) where
  -- "refusals are the same": its checks are the reply's
  refused-alike : (k : ℕ) → answer preview w ≡ refused k → answer reply w ≡ refused k
  refused-alike k e = (refused-exactly reply w).whenever k refl ((refused-exactly preview w).only k e)

  refused-too : (k : ℕ) → answer reply w ≡ refused k → answer preview w ≡ refused k
  refused-too k e = (refused-exactly preview w).whenever k refl ((refused-exactly reply w).only k e)

  -- c is accepted where d is, if d is refused where c is
  accepted-alike :
      (c d : Call) → ((k : ℕ) → refusal c k ≡ refused k) → ((k : ℕ) → answer c w ≡ refused k → answer d w ≡ refused k)
      → is_accepted (answer d w) ≡ true → is_accepted (answer c w) ≡ true
  unfolding answer
  accepted-alike c d named h a =
      outcome-by c w.queues w.hierarchy (λ o. answer c w ≡ o.answer → is_accepted o.answer ≡ true)
      (λ k e. wrong a (ap is_accepted (h k (e ∙ named k)))) (λ fit wf p e. rule-accepts w.queues w.hierarchy c) refl

  reply-accepted : is_accepted (answer preview w) ≡ true → is_accepted (answer reply w) ≡ true
  reply-accepted = accepted-alike reply preview (λ k. refl) refused-too

  preview-accepted : is_accepted (answer reply w) ≡ true → is_accepted (answer preview w) ≡ true
  preview-accepted = accepted-alike preview reply (λ k. refl) refused-alike

  -- what its rule gives
  abbrev given : Preview
  given = preview_of w.hierarchy (requested_line w.queues.request)

  says : is_accepted (answer preview w) ≡ true → answer preview w ≡ previewed given
  unfolding answer preview_rule
  says a = ap (λ (o : Outcome). o.answer) (done preview w refl a).same

  -- with r in the register
  given-right : (r : Request) → w.queues.request ≡ r → is_accepted (answer preview w) ≡ true → PredictsReply (preview_of w.hierarchy (requested_line r)) w
  unfolding answer next reply_rule
  given-right Free e a = wrong (ap is_free e) (reply-checked w.queues w.hierarchy (done preview w refl a).passed)
  given-right (Line l) e a =
      let b = w.hierarchy in
      let d = done reply w refl (reply-accepted a) in
      let p = parts w.queues b d.well in
      let t = request-absent w.queues b d.well l (subst (λ (r : Request). good_request r w.queues b ≡ true) e p.wanted) in
      record {
        line = l;
        requested = e;
        fills = ap (λ (o : Outcome). o.answer) d.same ∙ rw e;
        as-given =
            subst (MatchesReply (preview_of b l) l b) (sym (ap (λ (o : Outcome). o.hierarchy) d.same ∙ rw e))
            (matches b l p.fit (good-tells b p.lines) t.0 t.1);
      }

  predicts : (p : Preview) → answer preview w ≡ previewed p → PredictsReply p w
  predicts p e =
      let a : is_accepted (answer preview w) ≡ true = ap is_accepted e in
      let said = says a in
      let same : given ≡ p = cc in
      subst (λ (p : Preview). PredictsReply p w) same (given-right w.queues.request refl a)

  stays : next preview w ≡ w
  unfolding next preview_rule
  stays = outcome-by preview w.queues w.hierarchy (λ o. world o.queues o.hierarchy ≡ w) (λ k. refl) (λ fit wf p. refl)

-- 02, card 7
pub preview-exact : (w : World) → PreviewExact w
preview-exact w = record {
  predicts = predicts w;
  refused-only = refused-alike w;
  refused-whenever = refused-too w;
  accepted = λ a. record { given = given w; says = says w (preview-accepted w a) };
  unchanged = stays w;
}

-- ---- no other call gives a preview

abbrev says_preview : Answer → Bool
says_preview (refused k) = false
says_preview (stored i) = false
says_preview (value i v) = false
says_preview (waits i) = false
says_preview (waits_requested i) = false
says_preview (committed k) = false
says_preview (kept k) = false
says_preview (drained i) = false
says_preview (requested a) = false
says_preview idled = false
says_preview (filled a) = false
says_preview (flushed k) = false
says_preview (shown p bs) = false
says_preview (checkpointed n) = false
says_preview (previewed p) = true

module _ (q : Queues) (b : Hierarchy) where
  abbrev Other : Outcome → Type 0
  Other o = says_preview o.answer ≡ false

  load-other : (i : ℕ) (f : Lookup) (v : Option ℕ) → says_preview (load_answer i f v) ≡ false
  load-other i f none = either-word (λ r. says_preview r ≡ false) i refl refl f
  load-other i f (some v) = refl

  retry-other : (i : ℕ) (l : LoadEntry) (v : Option ℕ) → Other (retry_with i l v q b)
  unfolding retry_with answer_load
  retry-other i l none = load-other i (lookup q.request b (line_of l.address)) none
  retry-other i l (some v) = either Other (leb i q.committed) (λ e. refl) (λ e. refl)

  idle-other : Other (idle_rule q b)
  unfolding idle_rule
  idle-other =
      either Other (can_drain q b) (λ e. refl)
      (λ e. either Other (can_request_load q b) (λ e. refl) (λ e. either Other (can_request_store q b) (λ e. refl) (λ e. refl)))

  rule-other : (c : Call) → is_preview c ≡ false → Other (rule c q b)
  unfolding load_rule store_rule retry_rule commit_rule abort_rule reply_rule flush_rule show_rule checkpoint_rule restore_rule
  rule-other (load a n) e = load-other (next_number q) (lookup q.request b (line_of a)) (load_value (next_number q) a n q.stores b)
  rule-other (store a n v) e = refl
  rule-other (retry i) e = retry-other i (tried i q) (load_value i (tried i q).address (tried i q).width q.stores b)
  rule-other (commit k) e = refl
  rule-other (abort n) e = refl
  rule-other idle e = idle-other
  rule-other reply e = refl
  rule-other flush e = refl
  rule-other (show a) e =
      either (λ (r : Answer). says_preview r ≡ false) (ltb a b.size && present b (line_of a)) (λ t. refl) (λ t. refl)
  rule-other (checkpoint x) e = refl
  rule-other (restore x) e = refl
  rule-other preview e = wrong refl e

pub no-other-previews : (c : Call) (w : World) → NoOtherPreviews c w
unfolding answer
no-other-previews c w other p e =
    wrong (ap says_preview e)
    (outcome-by c w.queues w.hierarchy (λ o. says_preview o.answer ≡ false)
    (refusal-by (λ c r. says_preview r ≡ false) (λ c k. refl) (λ a. refl) c) (λ fit wf e. rule-other w.queues w.hierarchy c other))
