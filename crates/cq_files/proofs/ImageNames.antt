-- The names of images, and the name of the file of settings.
use Rattle.std.proofs.Common.{◌≡◌, ℕ, List, false, ap, refl, sym, ◌∙◌}
use Rattle.std.specs.Prelude.{nat_eq, IsTrue}
use Rattle.std.specs.List.{ends_with}
use Rattle.std.proofs.lemmas.Bool.{false≢true}
use Rattle.std.proofs.lemmas.Bool.Decides.{Decides-eqb}
use Rattle.std.proofs.lemmas.Slice.Eq.{ends_is}
use Rattle.cq_folder.specs.declared.names.TheConstants.{CONFIG_FILE, IMAGE_ENDING}
use Rattle.cq_model.specs.Settings.{Settings}
use Rattle.cq_files.specs.Queue.{IsImageName, ends_as_image}

-- the name of an image ends as one
pub image_ends : (settings : Settings) (cycle : ℕ) (file : List ℕ) → IsImageName settings cycle file → IsTrue (ends_as_image file)
unfolding ends_as_image
image_ends settings cycle file is = (ends_is Decides-eqb file IMAGE_ENDING.now (ends_with nat_eq file IMAGE_ENDING.now) refl).1 is.name is.spelled

-- the file of settings is no image
pub config_ends : ends_as_image CONFIG_FILE.now ≡ false
unfolding ends_as_image
config_ends = refl

pub not_config : (name : List ℕ) → IsTrue (ends_as_image name) → CONFIG_FILE.now ≡ name → ⊥
not_config name ending alike = false≢true (sym config_ends ∙ ap ends_as_image alike ∙ ending)
