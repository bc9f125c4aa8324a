-- The tests of places in the table, as bounds on numbers; the slots of a line's set lie among the slots in use.
use mathlib.Core.Path.{◌≡◌}
use mathlib.Core.Bool.{true}
use Prim.Native.Nat.{ℕ, ◌+◌, ◌*◌, ◌%◌, ◌-◌, ◌<◌, ◌≤◌}
use native.Mathlib.Nat.{mod-lt}
use native.Mathlib.Omega.{arith}
use lib.Dec.{ltb, leb}
use borrow.Author.Tests.{ltb-true, leb-true, lt-ltb, le-leb}
use Rattle.lists.proofs.Cond.{and_left, and_right, and_both}
use Rattle.rules.specs.declared.Figures.{Figures}
use Rattle.rules.proofs.LineFacts.{set_room}
use Rattle.records.specs.Records.{has_room, in_table, in_set}

-- ---- figures

-- what room says, as bounds
pub record Room (g : Figures) : Type 0 where
  pub some-set : 0 < g.sets
  pub some-way : 0 < g.ways
  pub in_all : g.sets * g.ways ≤ 256

pub room-bounds : (g : Figures) → has_room g ≡ true → Room g
unfolding has_room
room-bounds g h =
    let rest = and_right (ltb 0 g.sets) _ h in
    record {
      some-set = ltb-true 0 g.sets (and_left _ _ h);
      some-way = ltb-true 0 g.ways (and_left _ _ rest);
      in_all = leb-true (g.sets * g.ways) 256 (and_right (ltb 0 g.ways) _ rest);
    }

pub has_room_lem : (g : Figures) → 0 < g.sets → 0 < g.ways → g.sets * g.ways ≤ 256 → has_room g ≡ true
unfolding has_room
has_room_lem g s w h = rw (lt-ltb 0 g.sets s, lt-ltb 0 g.ways w) (le-leb (g.sets * g.ways) 256 h)

-- the slots of a line's set lie among the slots in use
pub slots-room : (g : Figures) (line : ℕ) → 0 < g.sets → (line % g.sets) * g.ways + g.ways ≤ g.sets * g.ways
slots-room g line h = set_room (line % g.sets) g.sets g.ways (mod-lt line h)

-- ---- slots

module _ (f ways : ℕ) where
  pub table-bound : in_table f ways ≡ true → f + ways ≤ 256
  unfolding in_table
  table-bound h =
      let w = leb-true ways 256 (and_left _ _ h) in
      let l = leb-true f (256 - ways) (and_right (leb ways 256) _ h) in
      omega arith

  pub in-table : f + ways ≤ 256 → in_table f ways ≡ true
  unfolding in_table
  in-table h = and_both (leb ways 256) (leb f (256 - ways)) (le-leb ways 256 (omega arith)) (le-leb f (256 - ways) (omega arith))

  module _ (v : ℕ) where
    pub in-set : f + ways ≤ 256 → f ≤ v → v < f + ways → in_set f ways v ≡ true
    unfolding in_set
    in-set h l u = rw (in-table h, le-leb f v l) (lt-ltb v (f + ways) u)
