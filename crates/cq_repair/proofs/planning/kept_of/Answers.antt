use Rattle.std.proofs.Common.{◌≡◌, ◌∙◌, ◌↔◌, ℕ, List, Global, length, ap, arith, subst}
use Rattle.std.specs.Prelude.{IsTrue, MatchOption, None, Option, String}
use Rattle.cq_cycle.specs.Index.{index_of}
use Rattle.cq_image.specs.Salvage.{salvage_of}
use Rattle.cq_image.proofs.WritingLemmas.{few_messages}
use Rattle.cq_layout.specs.Layout.{CycleLayout}
use Rattle.cq_model.specs.Settings.{texts}
use Rattle.cq_repair.specs.Found.{HasLater}
use Rattle.cq_repair.specs.Kept.{salvaged}
use Rattle.cq_repair.specs.Plans.{AreBeforeFault}
use Rattle.cq_repair.proofs.planning.kept_of.Goals as goal
use Rattle.cq_repair.proofs.planning.kept_of.Goals.{After-as_slice-2}

before : (c : After-as_slice-2) → AreBeforeFault c.args.found.now.saved.config.layout (salvaged c.args.found.now) c.in-Some.messages
before c =
    let found = c.args.found.now in
    let some = subst (λ (kept : Option (List (List ℕ))). MatchOption kept
    ((salvage_of c.layout-layout.result found.cycle c.as_slice-bytes.result.now).fault ≡ None)
    (AreBeforeFault c.layout-layout.result (salvage_of c.layout-layout.result found.cycle c.as_slice-bytes.result.now))) c.in-Some.is c.in_ok-messages.ensures in
    let here = subst (λ (layout : CycleLayout). AreBeforeFault layout (salvage_of layout found.cycle c.as_slice-bytes.result.now) c.in-Some.messages)
    c.layout-layout.ensures.value some in
    subst (λ (bytes : List ℕ). AreBeforeFault found.saved.config.layout (salvage_of found.saved.config.layout found.cycle bytes) c.in-Some.messages)
    c.as_slice-bytes.ensures.value here

pub overflow_cast-as_slice : goal.overflow_cast-as_slice
overflow_cast-as_slice c =
    let few = few_messages c.args.found.now.saved.config.layout c.in-Some.messages c.requires.layout (before (goal.at.overflow_cast-as_slice c).After-as_slice-2).fit in
    let same : length c.as_slice-2.result.now ≡ length c.in-Some.messages = ap length c.as_slice-2.ensures in
    omega arith

pub returns : goal.returns
returns c =
    let is = before (goal.at.returns c).After-as_slice-2 in
    record {
      faulty = is.faulty;
      messages = is.all;
      fit = is.fit;
      ended = subst (λ (names : List (String Global)). IsTrue c.has_later-ended.result ↔ HasLater c.args.found.now.saved.config (texts names) c.args.found.now.cycle)
          c.as_slice.ensures.value c.has_later-ended.ensures;
      end_is = c.value-end.ensures ∙ (c.new.ensures ∙ ap (λ (messages : List (List ℕ)). index_of c.args.found.now.cycle (length messages)) (c.as_slice-2.ensures ∙ is.all));
    }
