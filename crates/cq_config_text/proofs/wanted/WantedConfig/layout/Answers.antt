use Rattle.std.proofs.Common.{◌≡◌, rules, subst}
use Rattle.cq_layout.specs.Layout.{IsLawfulLayout}
use Rattle.cq_layout.specs.Shape.{measures}
use Rattle.cq_origin.specs.Origins.{origin_of}
use Rattle.cq_layout.specs.Version.{store_in}
use Rattle.cq_config_text.specs.Written.{wanted_layout}
use Rattle.cq_config_text.proofs.wanted.WantedConfig.layout.Goals as goal

pub returns : goal.returns
returns c =
    let cells : c.in_ok-cells.cells ≡ c.args.self.cells = search rules in
    let count : c.in_ok-index_count.index_count ≡ c.args.self.index_count = search rules in
    let spacing : c.in_ok-index_spacing.index_spacing ≡ c.args.self.index_spacing = search rules in
    let made : c.in_ok-shape.shape ≡ measures c.in_ok-cells.cells c.in_ok-index_count.index_count c.in_ok-index_spacing.index_spacing = search rules in
    let store : c.store.result ≡ store_in c.args.self.version (origin_of c.args.self.roll c.args.self.epoch) = search rules in
    let same : c.new-layout.result ≡ wanted_layout c.args.self = rw (c.new-layout.ensures, made, cells, count, spacing, store) in
    (same, subst IsLawfulLayout same c.cells-cells.ensures.lawful)
