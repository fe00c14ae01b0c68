-- What is copied into a buffer.
use Rattle.std.specs.Prelude.{◌≡◌, ℕ, ◌<◌, ◌++◌, List, drop, length}
use Rattle.cq_foreign.specs.declared.copying.Copied.{Copied}
use Rattle.cq_foreign.specs.declared.copying.Copied.TheVariants as copied

-- these bytes are the first of a buffer that is large enough; or it is smaller, and as it was
abbrev pub CopiesBytes : List ℕ → List ℕ → List ℕ → Copied → Type 0
CopiesBytes bytes room full (copied.Whole len) = (length bytes ≡ len) × (full ≡ bytes ++ drop len room)
CopiesBytes bytes room full (copied.NoRoom len) = (length bytes ≡ len) × (length room < len) × (full ≡ room)
