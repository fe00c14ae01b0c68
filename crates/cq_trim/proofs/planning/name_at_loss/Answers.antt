use Rattle.std.proofs.Common.{◌≡◌, ◌<◌, List, ℕ, arith, ap, get_or, length, string_bytes, subst, sym, ◌∙◌}
use Rattle.std.proofs.lemmas.List.{length-map}
use Rattle.std.proofs.lemmas.Option.{slice_get-get_or, slice_get-map, slice_get_read}
use Rattle.std.specs.Prelude.{IfSome, Option, Some, option_map, slice_get}
use Rattle.cq_trim.specs.Trimmed.{Loses}
use Rattle.cq_trim.proofs.planning.name_at_loss.Goals as goal

pub bounds-names-place : goal.bounds-names-place
bounds-names-place c =
    let as_many : length c.names.result.now ≡ length c.args.queue.now.contents.positions =
    sym (length-map c.names.result.now string_bytes) ∙ (ap length c.names.ensures.value ∙ sym c.requires.paired) in
    omega (arith, as_many, c.in-Some.ensures.there)

pub returns-in_ok-from_str-in-Some : goal.returns-in_ok-from_str-in-Some
returns-in_ok-from_str-in-Some c =
    let place = c.in-Some.place in
    let names = c.names.result.now in
    let positions = c.args.queue.now.contents.positions in
    let as_many : length names ≡ length positions = sym (length-map names string_bytes) ∙ (ap length c.names.ensures.value ∙ sym c.requires.paired) in
    let low : place < length positions = omega (arith, c.in-Some.ensures.there) in
    let placed = slice_get-get_or positions place 0 low in
    let named = slice_get_read names (length positions) place c.index-names-place.result (sym as_many) low c.index-names-place.is in
    let copied : string_bytes c.in_ok-from_str-in-Some.field-0 ≡ string_bytes c.index-names-place.result =
    c.in_ok-from_str-in-Some.ensures.ok ∙ c.as_str.ensures.value in (
      c.if-force.false,
      record {
        at = place;
        position = get_or positions place 0;
        named = ap (λ (all : List (List ℕ)). slice_get all place) (sym c.names.ensures.value)
            ∙ (slice_get-map string_bytes names place ∙ (ap (option_map string_bytes) named ∙ ap Some (sym copied)));
        placed = placed;
        loses = subst (λ (position : Option ℕ). IfSome position (Loses c.args.queue.now.contents c.args.floor)) placed c.in-Some.ensures.found;
        before = c.in-Some.ensures.before;
      },
    )
