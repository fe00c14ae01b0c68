use Rattle.std.proofs.Common.{◌<◌, ◌^◌, suc, length, refl}
use Rattle.cq_image.specs.Image.{image_of}
use Rattle.cq_image.specs.Reading.{opening, walk_of}
use Rattle.cq_image.specs.Salvage.{salvage_of}
use Rattle.cq_image.proofs.ReadLemmas.{accepted, read_only}
use Rattle.cq_layout.proofs.Each.{each-from_all}
use Rattle.cq_repair.proofs.laws.a_new_image_has_no_fault.Goals as goal

pub returns : goal.returns
returns c =
    λ layout cycle bytes ended ok low all.
    let kept = (salvage_of layout cycle bytes).messages in
    let next = accepted layout cycle bytes (walk_of layout cycle (suc (length bytes)) opening bytes)
    (each-from_all (λ byte. byte < 2 ^ 8) bytes all) refl in
    read_only layout cycle (image_of layout cycle kept ended) kept ended ok low next refl
