use Rattle.cq_names.proofs.FolderLemmas.{changed_left}
use Rattle.cq_names.proofs.laws.a_changed_folder_holds_what_is_left.Goals as goal

pub returns : goal.returns
returns c change before after text left done is = changed_left change before after text left done is
