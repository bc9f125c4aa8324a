-- Images stand for states: each comes back from the other.
use Prim.Native.Nat.{ℕ, ◌-◌, ◌<◌, min}
use mathlib.Core.Path.{◌≡◌, refl, sym, ap, ap₂, ◌∙◌}
use mathlib.Core.List.{List, [], ◌∷◌, ◌++◌, map}
use mathlib.Core.Bool.{Bool, true, false, ◌&&◌}
use native.Mathlib.Omega.{arith}
use lib.ListN.{length, take, drop, replicate, length-drop}
use lib.Seq.{take_all}
use lib.Dec.{leb, eqb}
use borrow.Author.Tests.{leb-true, leb-false, eqb-true, eqb-false}
use Rattle.lists.specs.Padded.{every}
use Rattle.lists.proofs.Cond.{cases, either, and_left, and_right, and_both}
use Rattle.lists.proofs.Loops.{every-end}
use Rattle.rules.specs.declared.Tag.{Tag}
use Rattle.rules.specs.Shape.{no_tag}
use Rattle.rules.specs.declared.LoadEntry.{LoadEntry}
use Rattle.rules.specs.declared.Request.{Request}
use Rattle.rules.specs.declared.Request.TheVariants.{Free, Line}
use Rattle.rules.specs.declared.WritePolicy.{WritePolicy}
use Rattle.rules.specs.declared.WritePolicy.TheVariants.{WriteBack, WriteThrough}
use Rattle.model.specs.declared.State.{State}
use Rattle.images.specs.declared.LoadImage.{LoadImage}
use Rattle.images.specs.declared.TagImage.{TagImage}
use Rattle.images.specs.declared.Image.{Image}
use Rattle.images.specs.Images.{flag_of, is_set, is_flag, opened_request, requested_of, line_named, request_stands, opened_profile, profile_of, is_profile, opened_load, imaged_load, load_stands, opened_tag, imaged_tag, tag_stands, zero_image, figured, used_of, used_records, opened_tags, opened_with, opened_of, opened_first, imaged_with, imaged_of, stands_with, stands_for, stands_first}
use Rattle.images.specs.Claims.{ImagesStandForStates}
use Rattle.images.proofs.Mapped.{joined, back, back-every, every_made, every-most}

-- ---- unused records

abbrev pub no_tag_image : TagImage
no_tag_image = record { valid = 0; dirty = 0; line = 0; age = 0; unused = 0 }

-- ---- truth values

set-flag : (t : Bool) → is_set (flag_of t) ≡ t
set-flag true = refl
set-flag false = refl

flag-flag : (t : Bool) → is_flag (flag_of t) ≡ true
flag-flag true = refl
flag-flag false = refl

flag-set : (n : ℕ) → is_flag n ≡ true → flag_of (is_set n) ≡ n
flag-set n e =
    cases (is_set n) (λ t. rw t (sym (eqb-true n 1 t)))
    (λ t. let z : n ≡ 0 = omega (arith, leb-true n 1 e, eqb-false n 1 t) in rw (t, z))

-- ---- the parts

opened-request : (r : Request) → opened_request (requested_of r) (line_named r) ≡ r
opened-request Free = refl
opened-request (Line l) = refl

request-stand : (r : Request) → request_stands (requested_of r) (line_named r) ≡ true
request-stand Free = refl
request-stand (Line l) = refl

opened-profile : (p : WritePolicy) → opened_profile (profile_of p) ≡ p
opened-profile WriteBack = refl
opened-profile WriteThrough = refl

profile-stand : (p : WritePolicy) → is_profile (profile_of p) ≡ true
profile-stand WriteBack = refl
profile-stand WriteThrough = refl

imaged-profile : (n : ℕ) → is_profile n ≡ true → profile_of (opened_profile n) ≡ n
imaged-profile n e =
    cases (eqb n 1) (λ t. rw t (sym (eqb-true n 1 t)))
    (λ t. let z : n ≡ 0 = omega (arith, leb-true n 1 e, eqb-false n 1 t) in rw z)

opened-load : (l : LoadEntry) → opened_load (imaged_load l) ≡ l
unfolding opened_load imaged_load
opened-load l = λ j. record { number = l.number; address = l.address; width = l.width; waiting = set-flag l.waiting j; forwarded = set-flag l.forwarded j }

load-stand : (l : LoadEntry) → load_stands (imaged_load l) ≡ true
unfolding load_stands imaged_load
load-stand l = and_both _ _ (flag-flag l.waiting) (flag-flag l.forwarded)

imaged-load : (l : LoadImage) → load_stands l ≡ true → imaged_load (opened_load l) ≡ l
unfolding load_stands opened_load imaged_load
imaged-load l e = λ j. record {
  number = l.number;
  address = l.address;
  width = l.width;
  waiting = flag-set l.waiting (and_left _ _ e) j;
  forwarded = flag-set l.forwarded (and_right (is_flag l.waiting) _ e) j;
}

opened-tag : (t : Tag) → opened_tag (imaged_tag t) ≡ t
unfolding opened_tag imaged_tag
opened-tag t = λ j. record { valid = set-flag t.valid j; dirty = t.dirty; line = t.line; age = t.age }

tag-stand : (t : Tag) → tag_stands (imaged_tag t) ≡ true
unfolding tag_stands imaged_tag
tag-stand t = rw (flag-flag t.valid)

imaged-tag : (t : TagImage) → tag_stands t ≡ true → imaged_tag (opened_tag t) ≡ t
unfolding tag_stands opened_tag imaged_tag
imaged-tag t e =
    λ j. record {
      valid = flag-set t.valid (and_left (is_flag t.valid) _ e) j;
      dirty = t.dirty;
      line = t.line;
      age = t.age;
      unused = sym (eqb-true t.unused 0 (and_right (is_flag t.valid) _ e)) j;
    }

-- ---- records that are zero

zero-tells : (t : TagImage) → zero_image t ≡ true → t ≡ no_tag_image
unfolding zero_image
zero-tells t e =
    let e₁ = and_right (eqb t.valid 0) _ e in
    let e₂ = and_right (eqb t.dirty 0) _ e₁ in
    let e₃ = and_right (eqb t.line 0) _ e₂ in
    let v = eqb-true t.valid 0 (and_left (eqb t.valid 0) _ e) in
    let d = eqb-true t.dirty 0 (and_left (eqb t.dirty 0) _ e₁) in
    let l = eqb-true t.line 0 (and_left (eqb t.line 0) _ e₂) in
    let a = eqb-true t.age 0 (and_left (eqb t.age 0) _ e₃) in
    let u = eqb-true t.unused 0 (and_right (eqb t.age 0) _ e₃) in
    λ j. record { valid = v j; dirty = d j; line = l j; age = a j; unused = u j }

zeros-stand : (l : List TagImage) → every zero_image l ≡ true → every tag_stands l ≡ true
unfolding every tag_stands
zeros-stand [] e = refl
zeros-stand (t ∷ l) e =
    and_both (tag_stands t) _ (ap tag_stands (zero-tells t (and_left (zero_image t) _ e))) (zeros-stand l (and_right (zero_image t) _ e))

zeros-opened : (l : List TagImage) → every zero_image l ≡ true → map opened_tag l ≡ replicate (length l) no_tag
unfolding every opened_tag
zeros-opened [] e = refl
zeros-opened (t ∷ l) e =
    ap₂ (λ (t : Tag) (l : List Tag). t ∷ l) (ap opened_tag (zero-tells t (and_left (zero_image t) _ e))) (zeros-opened l (and_right (zero_image t) _ e))

-- ---- the records that need a look

module _ {A : Type 0} (n : ℕ) (l : List A) (len : length l ≡ 256) where
  pub bounded-rest : 256 - min n 256 ≡ length l - n
  bounded-rest = rw len (omega arith)

  pub bounded-take : take (min n 256) l ≡ take n l
  bounded-take = cases (leb n 256)
      (λ e. ap (λ (m : ℕ). take m l) (omega (arith, leb-true n 256 e)))
      (λ e. let h : 256 < n = leb-false n 256 e in take_all (min n 256) l (omega arith) ∙ sym (take_all n l (omega arith)))

-- the others, if there are any, are zero
module _ (n : ℕ) (l : List TagImage) (z : every zero_image (drop n l) ≡ true) where
  rest-stands : every tag_stands (take n l) ≡ every tag_stands l
  rest-stands = every-most tag_stands n l (zeros-stand (drop n l) z)

  rest-opened : opened_tags n l ≡ map opened_tag l
  unfolding opened_tags
  rest-opened =
      ap (λ (r : List Tag). map opened_tag (take n l) ++ r) (sym (zeros-opened (drop n l) z ∙ ap (λ (m : ℕ). replicate m no_tag) (length-drop n l)))
      ∙ joined opened_tag n l

used-zero : (n : ℕ) (l : List TagImage) → every zero_image (drop (used_of n l) l) ≡ true
unfolding used_of
used-zero n l =
    either (λ n. every zero_image (drop n l) ≡ true) (every zero_image (drop n l)) (λ e. e)
    (λ e. every-end zero_image no_tag_image l (length l) (omega arith))

-- those that need a look tell all
module _ (i : Image) (n : ℕ) (e : n ≡ used_records i) where
  others-zero : every zero_image (drop n i.tags) ≡ true
  unfolding used_records
  others-zero = rw e (used-zero (figured i.sets i.ways) i.tags)

  pub used-stands : stands_first n i ≡ stands_for i
  unfolding stands_with stands_for stands_first
  used-stands = rw (rest-stands n i.tags others-zero)

  pub used-opened : opened_first n i ≡ opened_of i
  unfolding opened_of opened_first
  used-opened = ap (λ (tags : List Tag). opened_with tags i) (rest-opened n i.tags others-zero)

module _ (n l : ℕ) (e : request_stands n l ≡ true) where
  imaged-requested : requested_of (opened_request n l) ≡ n
  imaged-requested = cases (eqb n 0)
      (λ t. let z : n ≡ 0 = eqb-true n 0 t in rw z)
      (λ t. let z : n ≡ 1 = eqb-true n 1 (rw t at e) in rw z)

  imaged-line : line_named (opened_request n l) ≡ l
  imaged-line = cases (eqb n 0)
      (λ t. let z : n ≡ 0 = eqb-true n 0 t in rw z (sym (eqb-true l 0 (rw t at e))))
      (λ t. let z : n ≡ 1 = eqb-true n 1 (rw t at e) in rw z)

-- ---- the whole

pub opened-imaged : (s : State) → opened_of (imaged_of s) ≡ s
unfolding opened_with opened_of imaged_with imaged_of
opened-imaged s = λ j. record {
  figures = record { sets = s.figures.sets; ways = s.figures.ways; policy = opened-profile s.figures.policy j };
  size = s.size;
  last = s.last;
  committed = s.committed;
  request = opened-request s.request j;
  stores = s.stores;
  loads = back imaged_load opened_load opened-load s.loads j;
  checkpoints = s.checkpoints;
  tags = back imaged_tag opened_tag opened-tag s.tags j;
}

imaged-stands : (s : State) → stands_for (imaged_of s) ≡ true
unfolding stands_with stands_for imaged_with imaged_of
imaged-stands s =
    and_both _ _ (profile-stand s.figures.policy)
    (and_both _ _ (request-stand s.request)
    (and_both _ _ (every_made imaged_load load_stands load-stand s.loads) (every_made imaged_tag tag_stands tag-stand s.tags)))

pub imaged-opened : (i : Image) → stands_for i ≡ true → imaged_of (opened_of i) ≡ i
unfolding stands_with stands_for opened_with opened_of imaged_with imaged_of
imaged-opened i e =
    let flags = and_right (is_profile i.profile) _ e in
    let register : request_stands i.requested i.line ≡ true = and_left (request_stands i.requested i.line) _ flags in
    let rest : (every load_stands i.loads && every tag_stands i.tags) ≡ true = and_right (request_stands i.requested i.line) _ flags in
    λ j. record {
      sets = i.sets;
      ways = i.ways;
      profile = imaged-profile i.profile (and_left (is_profile i.profile) _ e) j;
      size = i.size;
      last = i.last;
      committed = i.committed;
      requested = imaged-requested i.requested i.line register j;
      line = imaged-line i.requested i.line register j;
      stores = i.stores;
      loads = back-every opened_load imaged_load load_stands imaged-load i.loads (and_left (every load_stands i.loads) _ rest) j;
      checkpoints = i.checkpoints;
      tags = back-every opened_tag imaged_tag tag_stands imaged-tag i.tags (and_right (every load_stands i.loads) _ rest) j;
    }

pub images-stand : ImagesStandForStates
images-stand = record { opened = opened-imaged; stand = imaged-stands; imaged = imaged-opened }
