-- Names of tailers in buffers.
use Rattle.std.specs.Prelude.{◌≡◌, ◌≤◌, ℕ, List, Option, Some, None, length, slice_get}
use Rattle.cq_foreign.specs.Copies.{CopiesBytes}
use Rattle.cq_foreign.specs.declared.copying.Copied.{Copied}

-- the `k`th of these names was copied to a buffer, or not for want of room; or there are fewer, and the buffer is as it was
abbrev pub CopiesTailer : List (List ℕ) → ℕ → List ℕ → List ℕ → Option Copied → Type 0
CopiesTailer names k room full (Some came) =
    (name : List ℕ) × (slice_get names k ≡ Some name) × CopiesBytes name room full came
CopiesTailer names k room full None = (length names ≤ k) × (full ≡ room)
