use Rattle.std.proofs.Common.{◌≡◌, ◌<◌, ◌^◌, ℕ, List, Some, length, subst, sym, slice_get, string_bytes}
use Rattle.cq_foreign.proofs.Tailers.{named, short}
use Rattle.cq_foreign.proofs.names.tailer_into.Goals as goal

pub copy_into-requires : goal.copy_into-requires
copy_into-requires c =
    subst (λ (bytes : List ℕ). length bytes < 2 ^ 32) (sym c.as_bytes.ensures.value)
    (short c.args.config.now.names c.args.k _ c.names.ensures.lawful.names.each
    (named c.names.result.now c.args.config.now.names c.args.k c.in_ok-name.name.now c.names.ensures.value
    c.in_ok-name.ensures.lookup.3.0 c.in_ok-name.ensures.lookup.1))

pub returns : goal.returns
returns c = (
  c.as_bytes.result.now,
  subst (λ (bytes : List ℕ). slice_get c.args.config.now.names c.args.k ≡ Some bytes) (sym c.as_bytes.ensures.value)
      (named c.names.result.now c.args.config.now.names c.args.k c.in_ok-name.name.now c.names.ensures.value
      c.in_ok-name.ensures.lookup.3.0 c.in_ok-name.ensures.lookup.1),
  c.copy_into.ensures,
)
