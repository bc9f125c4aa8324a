-- `put_store` meets its contract: the lowest bytes of the value are copied to their places, or nothing changes.
use Rattle.std.proofs.Common.{ℕ, ◌+◌, ◌-◌, ◌∙◌, sym, ap, length, length-drop, arith}
use Rattle.std.proofs.lemmas.List.{length-take}
use borrow.Rule.Slice.PartMut.{put_mid}
use Rattle.line_bytes.proofs.Writing.{inside-tells, put-part, put-outside}
use Rattle.line_bytes.proofs.put_store.Goals as goal

pub overflow_add-at : goal.overflow_add-at
overflow_add-at c =
    let s = inside-tells _ _ _ (sym c.places_inside.ensures ∙ c.if-places_inside.true) in
    omega arith

pub slice_bounds-copy_from_slice-end : goal.slice_bounds-copy_from_slice-end
slice_bounds-copy_from_slice-end c =
    let s = inside-tells _ _ _ (sym c.places_inside.ensures ∙ c.if-places_inside.true) in
    omega arith

pub slice_bounds-low-end : goal.slice_bounds-low-end
slice_bounds-low-end c =
    let s = inside-tells _ _ _ (sym c.places_inside.ensures ∙ c.if-places_inside.true) in
    omega (arith, ap length c.to_le_bytes-low.ensures)

pub slice_bounds-copy_from_slice-end-then-places_inside : goal.slice_bounds-copy_from_slice-end-then-places_inside
slice_bounds-copy_from_slice-end-then-places_inside c =
    let s = inside-tells _ _ _ (sym c.places_inside.ensures ∙ c.if-places_inside.true) in
    omega (arith, ap length c.to_le_bytes-low.ensures, length-take c.args.width c.to_le_bytes-low.result)

pub copy_from_slice-requires : goal.copy_from_slice-requires
copy_from_slice-requires c =
    let s = inside-tells _ _ _ (sym c.places_inside.ensures ∙ c.if-places_inside.true) in
    omega (arith, ap length c.to_le_bytes-low.ensures, length-take {A = ℕ}, length-drop {A = ℕ})

pub returns-then-places_inside : goal.returns-then-places_inside
returns-then-places_inside c =
    let s = inside-tells _ _ _ (sym c.places_inside.ensures ∙ c.if-places_inside.true) in
    ap (put_mid c.args.at (c.args.at + c.args.width - c.args.at) c.args.bytes.now) c.copy_from_slice.ensures.after
    ∙ put-part c.args.at c.args.width c.args.value c.args.bytes.now c.to_le_bytes-low.result c.to_le_bytes-low.ensures c.ranges.value.fits s.0 s.1

pub returns-else-places_inside : goal.returns-else-places_inside
returns-else-places_inside c = put-outside _ _ _ _ (sym c.places_inside.ensures ∙ c.if-places_inside.false)
