use Rattle.cq_trim.proofs.HoldLemmas.{trimmed_left}
use Rattle.cq_trim.proofs.laws.a_trimmed_folder_holds_what_is_left.Goals as goal

pub returns : goal.returns
returns c settings before after text left done wet is = trimmed_left settings before after text left done wet is
