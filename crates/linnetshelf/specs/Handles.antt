-- Which calls a handle is for.
use Rattle.std.specs.Prelude.{◌≡◌}
use Rattle.cq_endpoint.specs.Endpoints.{EndpointFacts}
use Rattle.cq_handle.specs.declared.held.Held.{Held}
use Rattle.cq_handle.specs.declared.held.Held.TheVariants as held
use Rattle.cq_handle.specs.declared.held.ShelfUser.{ShelfUser}
use Rattle.cq_handle.specs.declared.held.ShelfUser.TheVariants as user
use Rattle.cq_kept_calls.specs.CallKeepers.{CallKeeperFacts}
use Rattle.cq_saved.specs.Saved.{SavedFacts}
use Rattle.cq_shelf.specs.declared.reader.ShelfReader.{ShelfReader}
use Rattle.cq_shelf.specs.declared.taker.ShelfTaker.{ShelfTaker}
use Rattle.cq_shelf.specs.declared.writer.ShelfWriter.{ShelfWriter}

-- a call on an endpoint says this of it; where the handle holds something else it stays so, and the answer is wrong
abbrev pub OnEndpoint : Held → Held → Type 0 → (EndpointFacts → EndpointFacts → Type 0) → Type 0
OnEndpoint (held.Endpoint old) (held.Endpoint new) Wrong Says = Says old new
OnEndpoint (held.Endpoint old) _ Wrong Says = ⊥
OnEndpoint other now Wrong Says = (now ≡ other) × Wrong

-- a call on what is saved says this of it; where the handle holds something else it stays so, and the answer is wrong
abbrev pub OnSaved : Held → Held → Type 0 → (SavedFacts → SavedFacts → Type 0) → Type 0
OnSaved (held.Saved old) (held.Saved new) Wrong Says = Says old new
OnSaved (held.Saved old) _ Wrong Says = ⊥
OnSaved other now Wrong Says = (now ≡ other) × Wrong

-- a call on a keeper says this of it; where the handle holds something else it stays so, and the answer is wrong
abbrev pub OnKeeper : Held → Held → Type 0 → (CallKeeperFacts → CallKeeperFacts → Type 0) → Type 0
OnKeeper (held.Keeper old) (held.Keeper new) Wrong Says = Says old new
OnKeeper (held.Keeper old) _ Wrong Says = ⊥
OnKeeper other now Wrong Says = (now ≡ other) × Wrong

-- a call on a user of a shelf says this of it; where the handle holds something else it stays so, and the answer is wrong
abbrev pub OnShelf : Held → Held → Type 0 → (ShelfUser → ShelfUser → Type 0) → Type 0
OnShelf (held.Shelf old) (held.Shelf new) Wrong Says = Says old new
OnShelf (held.Shelf old) _ Wrong Says = ⊥
OnShelf other now Wrong Says = (now ≡ other) × Wrong

-- a call on a writer of a shelf says this of it; where the handle holds something else it stays so, and the answer is wrong
abbrev pub OnShelfWriter : Held → Held → Type 0 → (ShelfWriter → ShelfWriter → Type 0) → Type 0
OnShelfWriter (held.Shelf (user.Writer old)) (held.Shelf (user.Writer new)) Wrong Says = Says old new
OnShelfWriter (held.Shelf (user.Writer old)) _ Wrong Says = ⊥
OnShelfWriter other now Wrong Says = (now ≡ other) × Wrong

-- the same of a reader of a shelf
abbrev pub OnShelfReader : Held → Held → Type 0 → (ShelfReader → ShelfReader → Type 0) → Type 0
OnShelfReader (held.Shelf (user.Reader old)) (held.Shelf (user.Reader new)) Wrong Says = Says old new
OnShelfReader (held.Shelf (user.Reader old)) _ Wrong Says = ⊥
OnShelfReader other now Wrong Says = (now ≡ other) × Wrong

-- the same of a taker of a shelf
abbrev pub OnShelfTaker : Held → Held → Type 0 → (ShelfTaker → ShelfTaker → Type 0) → Type 0
OnShelfTaker (held.Shelf (user.Taker old)) (held.Shelf (user.Taker new)) Wrong Says = Says old new
OnShelfTaker (held.Shelf (user.Taker old)) _ Wrong Says = ⊥
OnShelfTaker other now Wrong Says = (now ≡ other) × Wrong
