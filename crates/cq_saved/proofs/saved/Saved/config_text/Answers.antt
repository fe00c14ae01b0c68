use Rattle.cq_saved.proofs.Texts.{text_short}
use Rattle.cq_saved.proofs.saved.Saved.config_text.Goals as goal

pub returns-in-Ok-clause-bound : goal.returns-in-Ok-clause-bound
returns-in-Ok-clause-bound c =
    text_short c.self.inside.config _ _ c.in-Ok.text.items c.names.ensures.lawful c.in-Ok.ensures
