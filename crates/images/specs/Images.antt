-- The image of a state, the state of an image, and which images stand for a state.
use Rattle.std.specs.Prelude.{ℕ, ◌*◌, ◌-◌, Bool, cond, ◌&&◌, List, map, ◌++◌, min, leb, eqb, length, take, drop, replicate}
use Rattle.lists.specs.Padded.{every}
use Rattle.rules.specs.Shape.{geometry, no_tag}
use Rattle.rules.specs.declared.Figures.{Figures}
use Rattle.rules.specs.declared.Tag.{Tag}
use Rattle.rules.specs.declared.LoadEntry.{LoadEntry}
use Rattle.rules.specs.declared.Request.{Request}
use Rattle.rules.specs.declared.Request.TheVariants.{Free, Line}
use Rattle.rules.specs.declared.WritePolicy.{WritePolicy}
use Rattle.rules.specs.declared.WritePolicy.TheVariants.{WriteBack, WriteThrough}
use Rattle.model.specs.declared.State.{State}
use Rattle.images.specs.declared.LoadImage.{LoadImage}
use Rattle.images.specs.declared.TagImage.{TagImage}
use Rattle.images.specs.declared.Image.{Image}

-- ---- truth values

-- a truth value as a number
abbrev pub flag_of : Bool → ℕ
flag_of t = cond t 1 0

-- the truth value that a number stands for
abbrev pub is_set : ℕ → Bool
is_set n = eqb n 1

-- a number that stands for one
abbrev pub is_flag : ℕ → Bool
is_flag n = leb n 1

-- ---- the miss register

-- the register of two numbers
abbrev pub opened_request : ℕ → ℕ → Request
opened_request requested line = cond (is_set requested) (Line line) Free

-- 1 where it names a line
abbrev pub requested_of : Request → ℕ
requested_of Free = 0
requested_of (Line l) = 1

-- the line that it names, or 0
abbrev pub line_named : Request → ℕ
line_named Free = 0
line_named (Line l) = l

-- free with line 0, or a line is named
abbrev pub request_stands : ℕ → ℕ → Bool
request_stands requested line = cond (eqb requested 0) (eqb line 0) (eqb requested 1)

-- ---- the profile: the write policy by its number

abbrev pub profile_of : WritePolicy → ℕ
profile_of WriteBack = 0
profile_of WriteThrough = 1

-- the policy of a number; write-back for a number that no profile has
abbrev pub opened_profile : ℕ → WritePolicy
opened_profile n = cond (eqb n (profile_of WriteThrough)) WriteThrough WriteBack

-- a number that stands for one
abbrev pub is_profile : ℕ → Bool
is_profile n = leb n 1

-- ---- entries and records

-- the entry of its image
unfoldable pub opened_load : LoadImage → LoadEntry
opened_load l = record { number = l.number; address = l.address; width = l.width; waiting = is_set l.waiting; forwarded = is_set l.forwarded }

-- the image of an entry
unfoldable pub imaged_load : LoadEntry → LoadImage
imaged_load l = record { number = l.number; address = l.address; width = l.width; waiting = flag_of l.waiting; forwarded = flag_of l.forwarded }

-- its flags are 0 or 1
unfoldable pub load_stands : LoadImage → Bool
load_stands l = is_flag l.waiting && is_flag l.forwarded

-- the record of its image
unfoldable pub opened_tag : TagImage → Tag
opened_tag t = record { valid = is_set t.valid; dirty = t.dirty; line = t.line; age = t.age }

-- the image of a record
unfoldable pub imaged_tag : Tag → TagImage
imaged_tag t = record { valid = flag_of t.valid; dirty = t.dirty; line = t.line; age = t.age; unused = 0 }

-- its flag is 0 or 1, and the unused byte is 0
unfoldable pub tag_stands : TagImage → Bool
tag_stands t = is_flag t.valid && eqb t.unused 0

-- ---- records that need a look

-- it is all zero
unfoldable pub zero_image : TagImage → Bool
zero_image t = eqb t.valid 0 && (eqb t.dirty 0 && (eqb t.line 0 && (eqb t.age 0 && eqb t.unused 0)))

-- as many records as the figures ask for, or all
abbrev pub figured : ℕ → ℕ → ℕ
figured sets ways = min (sets * ways) 256

-- the first n records, if all others are zero, else all
unfoldable pub used_of : ℕ → List TagImage → ℕ
used_of n tags = cond (every zero_image (drop n tags)) n (length tags)

-- how many records of an image need a look
unfoldable pub used_records : Image → ℕ
used_records i = used_of (figured i.sets i.ways) i.tags

-- the records of the first n images, the others unused
unfoldable pub opened_tags : ℕ → List TagImage → List Tag
opened_tags n tags = map opened_tag (take n tags) ++ replicate (length tags - n) no_tag

-- ---- the whole

-- figures by their numbers
abbrev pub figures_with : ℕ → ℕ → ℕ → Figures
figures_with sets ways profile = geometry (opened_profile profile) sets ways

-- the figures that an image holds
abbrev pub figures_of : Image → Figures
figures_of i = figures_with i.sets i.ways i.profile

-- the state of an image, with these records
unfoldable pub opened_with : List Tag → Image → State
opened_with tags i = record {
  figures = figures_of i;
  size = i.size;
  last = i.last;
  committed = i.committed;
  request = opened_request i.requested i.line;
  stores = i.stores;
  loads = map opened_load i.loads;
  checkpoints = i.checkpoints;
  tags = tags;
}

-- the state of an image
unfoldable pub opened_of : Image → State
opened_of i = opened_with (map opened_tag i.tags) i

-- the same with the first n records alone
unfoldable pub opened_first : ℕ → Image → State
opened_first n i = opened_with (opened_tags n i.tags) i

-- the image of a state, with these images of its records
unfoldable pub imaged_with : List TagImage → State → Image
imaged_with images s = record {
  sets = s.figures.sets;
  ways = s.figures.ways;
  profile = profile_of s.figures.policy;
  size = s.size;
  last = s.last;
  committed = s.committed;
  requested = requested_of s.request;
  line = line_named s.request;
  stores = s.stores;
  loads = map imaged_load s.loads;
  checkpoints = s.checkpoints;
  tags = images;
}

-- the image of a state
unfoldable pub imaged_of : State → Image
imaged_of s = imaged_with (map imaged_tag s.tags) s

-- there is such a profile; every flag is 0 or 1 in the register, the loads and these records; and a free register's line is 0
unfoldable pub stands_with : List TagImage → Image → Bool
stands_with tags i =
    is_profile i.profile
    && (request_stands i.requested i.line && (every load_stands i.loads && every tag_stands tags))

-- an image that stands for a state
unfoldable pub stands_for : Image → Bool
stands_for i = stands_with i.tags i

-- the same asked of the first n records alone
unfoldable pub stands_first : ℕ → Image → Bool
stands_first n i = stands_with (take n i.tags) i
