-- Laws of what depends on V: the header's size and the vendor's field.
-- Assumes nothing.
use mathlib.Core.Path.{◌≡◌}
use mathlib.Core.Bool.{true, false}
use mathlib.Core.List.{[]}
use Prim.Native.Nat.{ℕ}
use Rattle.wire.specs.Number.{be}
use Rattle.paper.specs.Avp.{has_v, head_size, vendor_field}

module _ (flags : ℕ) where
  pub head_with_v : has_v flags ≡ true → head_size flags ≡ 12
  unfolding head_size
  head_with_v e = rw e

  pub head_without_v : has_v flags ≡ false → head_size flags ≡ 8
  unfolding head_size
  head_without_v e = rw e

  pub field_with_v : (vendor : ℕ) → has_v flags ≡ true → vendor_field flags vendor ≡ be 4 vendor
  unfolding vendor_field
  field_with_v vendor e = rw e

  pub field_without_v : (vendor : ℕ) → has_v flags ≡ false → vendor_field flags vendor ≡ []
  unfolding vendor_field
  field_without_v vendor e = rw e
