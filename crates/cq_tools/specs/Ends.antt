-- How a start of the whole program ends.
use Rattle.std.specs.Prelude.{◌≡◌, ◌⊎◌, ℕ}
use Rattle.cq_orders.specs.declared.order.Order.{Order}
use Rattle.cq_orders.specs.declared.order.Order.TheVariants.{Log, Race}
use Rattle.cq_program.specs.Statuses.{IsStatus}
use Rattle.cq_program.specs.declared.starting.TheConstants.{DONE, FAULT}

-- the status with which an order may end: `log` and `race` are done or failed
abbrev pub EndsWhole : Order → ℕ → Type 0
EndsWhole (Log folder settings) status = (status ≡ DONE) ⊎ (status ≡ FAULT)
EndsWhole (Race messages) status = (status ≡ DONE) ⊎ (status ≡ FAULT)
EndsWhole order status = IsStatus status
