use Rattle.std.proofs.Common.{◌≡◌, ℕ, ◌≤◌, ◌*◌, Option, Some, None, refl, subst, sym, arith, ◌∙◌}
use lib.Count.{ones}
use Rattle.cq_layout.specs.Layout.{IsLawfulLayout}
use Rattle.cq_new.specs.Made.{IsGiven, count_for, cycles_for, given_or}
use Rattle.cq_new.proofs.CountLemmas.{AreCycles, IsCount, count_lawful, cycles_lawful}
use Rattle.cq_new.proofs.laws.what_is_chosen_is_lawful.Goals as goal

-- the cycles that were given are so many, and the others are lawful
chosen : (given : Option ℕ) (cells cycles : ℕ) → IsGiven given cycles → AreCycles cells cycles → 1 ≤ cells → cells ≤ 4194304
    → AreCycles cells (given_or (cycles_for cells) given)
chosen None cells cycles is lawful one high = cycles_lawful cells one high
chosen (Some n) cells cycles is lawful one high = subst (AreCycles cells) is lawful

pub returns : goal.returns
unfolding ones
returns c given made roll index_count index_spacing cycles is wanted lawful =
    let shape = lawful.layout.shape in
    let low : 1 ≤ made.cells = omega (arith, shape.cells_low) in
    let high : made.cells ≤ 4194304 = omega (arith, shape.cells_high) in
    let count : IsCount made.cells made.index_count =
    subst (IsCount made.cells) (sym is.index_count) (count_lawful made.cells index_count shape.count_low shape.cells_low) in
    let few : AreCycles made.cells made.cycles = subst (AreCycles made.cells) (sym is.cycles)
    (chosen given.cycles made.cells cycles wanted (record { one = lawful.one; few = lawful.few; all = lawful.cells }) low high) in
    record {
      layout = record {
        shape = record {
          count_power = count.power;
          count_low = count.low;
          count_high = count.high;
          spacing_power = rw is.index_spacing refl;
          spacing_low = rw is.index_spacing (omega arith);
          spacing_high = rw is.index_spacing (omega arith);
          cells_low = count.room;
          cells_high = shape.cells_high;
        };
        store = lawful.layout.store;
      };
      one = few.one;
      few = few.few;
      cells = few.all;
      begun = lawful.begun;
      names = lawful.names;
      store = lawful.store;
    }
