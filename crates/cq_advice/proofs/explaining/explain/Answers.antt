use Rattle.std.proofs.Common.{rules, ◌≡◌, sym, ap, ◌∙◌}
use Rattle.cq_advice.specs.Advice.{advice, faults_for, joined}
use Rattle.cq_advice.specs.declared.table.TheConstants.{TABLE}
use Rattle.cq_advice.proofs.AdviceLemmas.{advice-none}
use Rattle.cq_model.specs.Settings.{texts}
use Rattle.cq_advice.proofs.explaining.explain.Goals as goal

pub returns-clause-found : goal.returns-clause-found
returns-clause-found g c =
    let faults = faults_for (joined (texts c.args.words.now)) TABLE.now in
    let told : c.as_slice-2.result.now ≡ advice faults = search rules in
    let found = c.explained_by.ensures in
    (λ unknown. advice-none faults (sym told ∙ found.0 unknown), λ none. found.1 (told ∙ ap advice none))
