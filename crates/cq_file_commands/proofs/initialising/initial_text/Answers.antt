use Rattle.std.proofs.Common.{Global, List, ℕ, length, ap, replicate, subst, sym, ◌≡◌, ◌∙◌}
use Rattle.std.specs.Prelude.{String, string_bytes}
use Rattle.std.proofs.lemmas.List.{length-map}
use Rattle.cq_cycle.specs.declared.roll.Roll.{Roll}
use Rattle.cq_config_text.specs.ConfigText.{IsTextOf}
use Rattle.cq_model.specs.Settings.{IsLawfulSettings, Settings, texts}
use Rattle.cq_settings.specs.declared.settings.InitSettings.{InitSettings}
use Rattle.cq_file_commands.specs.Initialised.{IsTextFor, wanted_settings}
use Rattle.cq_file_commands.proofs.initialising.initial_text.Goals as goal

-- the text of a configuration that is the wanted one, with each name at 0
text_for : (wanted : InitSettings) (roll : Roll) (config : Settings) (names : List (String Global)) (positions text : List ℕ)
    → config ≡ wanted_settings wanted roll → IsLawfulSettings (wanted_settings wanted roll) → texts names ≡ config.names
    → positions ≡ replicate (length names) 0 → IsTextOf config positions 0 text → IsTextFor wanted roll text
text_for wanted roll config names positions text config_is lawful names_are zeros spelled =
    let count : length names ≡ length wanted.names.items =
    sym (length-map names string_bytes) ∙ ap length names_are ∙ ap (λ (s : Settings). length s.names) config_is
    ∙ length-map wanted.names.items string_bytes in
    record {
      lawful = lawful;
      spelled = subst (λ (s : Settings). IsTextOf s (replicate (length wanted.names.items) 0) 0 text) config_is
          (subst (λ (ps : List ℕ). IsTextOf config ps 0 text) (zeros ∙ ap (λ (n : ℕ). replicate n 0) count) spelled);
    }

pub write_config-requires-clause-paired : goal.write_config-requires-clause-paired
write_config-requires-clause-paired c =
    c.as_slice.ensures.len ∙ c.in_ok-positions.ensures.len ∙ sym (length-map c.names.result.now string_bytes)
    ∙ ap length c.names.ensures.value

pub returns-clause-text : goal.returns-clause-text
returns-clause-text c =
    text_for c.args.settings.now c.args.roll c.in_ok-config.config c.names.result.now c.as_slice.result.now c.in_ok-write_config.field-0.items
    c.in_ok-config.ensures.config.0 c.in_ok-config.ensures.config.1 c.names.ensures.value
    (c.as_slice.ensures.value ∙ c.in_ok-positions.ensures.items_if_clones_equal (λ _ same. same)) c.in_ok-write_config.ensures
