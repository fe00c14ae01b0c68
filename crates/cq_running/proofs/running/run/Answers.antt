use Rattle.std.proofs.Common.{◌≡◌, ◌≢◌, ℕ, List, rules, subst, sym}
use Rattle.std.proofs.KnownBytes.{Keeps-refl}
use Rattle.std.proofs.lemmas.Result.{on_ok_weaker}
use Rattle.std.specs.Prelude.{IfErr, IfSome, OnOk, Option, Result, Ok, Err}
use Rattle.std.specs.Io.KnownBytes.{Appends, Keeps}
use Rattle.cq_orders.specs.declared.order.Order.{Order}
use Rattle.cq_text.specs.declared.fault.ToolFault.{ToolFault}
use Rattle.cq_text.specs.declared.fault.ToolFault.TheVariants.{ImagesAtFault, WriteFault}
use Rattle.cq_files.specs.Counted.{CountsFaults}
use Rattle.cq_file_commands.specs.Dumped.{IsDumpedQueue}
use Rattle.cq_file_commands.specs.FileFaults.{IsDumpFault, IsSalvageFault}
use Rattle.cq_file_commands.specs.Salvaged.{IsSalvagedQueue}
use Rattle.cq_files.proofs.QueueLemmas.{keeps-refl}
use Rattle.cq_text.specs.CycleLine.{HasCause, IsCycleLine}
use Rattle.cq_text.specs.Output.{AppendsBeginning}
use Rattle.cq_running.specs.Orders.{Ends, Streams}
use Rattle.cq_commands.specs.QueueFaults.{IsTakeFault}
use Rattle.cq_files.specs.Printing.{SavesAndPrints}
use Rattle.cq_commands.specs.Taken.{IsTaken}
use Rattle.cq_running.proofs.running.run.Goals as goal

-- what is said of a known order is said of the one that was given
of_known : {T : Type 0} (s : Streams) (result : Result T ToolFault) (order known : Order) → order ≡ known
    → Ends known s result → Ends order s result
of_known s result order known is ends = subst (λ (o : Order). Ends o s result) (sym is) ends

-- so it ends, and that is what the folder counted
ended : {T : Type 0} {was now : ℕ} (s : Streams) (result : Result T ToolFault) (order known : Order) → order ≡ known → CountsFaults was now result
    → Ends known s result → record { ended : Ends order s result; counted : CountsFaults was now result }
ended s result order known is counted ends = record { ended = of_known s result order known is ends; counted = counted }

-- what holds anyway holds after a fault
anyway : {T : Type 0} (result : Result T ToolFault) (P : Type 0) → P → IfErr result (λ fault. P)
anyway (Ok value) P holds = tt
anyway (Err fault) P holds = holds

both : {T : Type 0} (result : Result T ToolFault) (P Q : ToolFault → Type 0) → IfErr result P → IfErr result Q
    → IfErr result (λ fault. P fault × Q fault)
both (Ok value) P Q one other = tt
both (Err fault) P Q one other = (one, other)

-- a fault before which nothing was written is none of the writer's, nor one of images
silent_too : {T : Type 0} (result : Result T ToolFault) (P : Type 0) → IfErr result (λ fault. fault ≢ WriteFault → P)
    → IfErr result (λ fault. fault ≢ WriteFault → fault ≢ ImagesAtFault → P)
silent_too (Ok value) P silent = tt
silent_too (Err fault) P silent = λ unwritten unfaulty. silent unwritten

-- an order that writes no text has written none
unwritten : {T : Type 0} (result : Result T ToolFault) (output : Option (List ℕ))
    → IfErr result (λ fault. fault ≢ WriteFault → fault ≢ ImagesAtFault → Keeps output output)
unwritten (Ok value) output = tt
unwritten (Err fault) output = λ unwritten unfaulty. Keeps-refl output

-- what was done, with what holds anyway
both_done : {T : Type 0} (result : Result T ToolFault) (P Q R : Type 0) → OnOk result P → OnOk result Q → R → OnOk result (P × Q × R)
both_done (Ok value) P Q R one other too = (one, other, too)
both_done (Err fault) P Q R one other too = tt

pub returns-in-Cycle-clause-ended : goal.returns-in-Cycle-clause-ended
returns-in-Cycle-clause-ended g c =
    let before = g.W.Write.contents c.args.output.now in
    let after = g.W.Write.contents c.cycle.new.output in
    let word = c.as_str.ensures.value in
    of_known _ c.cycle.result c.args.order.now _ c.in-Cycle.is (record {
      done = on_ok_weaker c.cycle.result
          (λ written. (
            keeps-refl (g.F.Folder.files c.args.folder.now),
            subst (λ (word : List ℕ). (text : List ℕ) × IsCycleLine word c.in-Cycle.epoch c.in-Cycle.moment text
                × Appends before after text) word written,
          ))
          c.cycle.ensures.written;
      cause = subst (λ (word : List ℕ). IfErr c.cycle.result (HasCause word c.in-Cycle.epoch c.in-Cycle.moment)) word c.cycle.ensures.fault;
      left = anyway c.cycle.result _ (keeps-refl (g.F.Folder.files c.args.folder.now));
      silent = silent_too c.cycle.result _ c.cycle.ensures.silent;
      broken = subst (λ (word : List ℕ). IfErr c.cycle.result (λ fault. fault ≡ WriteFault → (text : List ℕ)
          × IsCycleLine word c.in-Cycle.epoch c.in-Cycle.moment text × AppendsBeginning before after text)) word c.cycle.ensures.broken;
      told = tt;
      version = tt;
    })

pub returns-in-Init : goal.returns-in-Init
returns-in-Init g c =
    ended _ c.init.result c.args.order.now _ c.in-Init.is c.init.ensures.counted (record {
      done = both_done c.init.result _ _ _ c.init.ensures.new c.init.ensures.written (Keeps-refl (g.W.Write.contents c.args.output.now));
      cause = c.init.ensures.fault;
      left = both c.init.result _ _ c.init.ensures.left c.init.ensures.safe;
      silent = unwritten c.init.result (g.W.Write.contents c.args.output.now);
      broken = search rules;
      told = tt;
      version = tt;
    })

pub returns-in-Write : goal.returns-in-Write
returns-in-Write g c =
    ended _ c.write.result c.args.order.now _ c.in-Write.is c.write.ensures.counted (record {
      done = c.write.ensures.saved.done;
      cause = c.write.ensures.cause;
      left = c.write.ensures.saved.left;
      silent = silent_too c.write.result _ c.write.ensures.saved.silent;
      broken = c.write.ensures.saved.broken;
      told = c.write.ensures.told;
      version = c.write.ensures.version;
    })

pub returns-in-Read : goal.returns-in-Read
returns-in-Read g c =
    ended _ c.read.result c.args.order.now _ c.in-Read.is c.read.ensures.counted (record {
      done = on_ok_weaker c.read.result (λ printed. (c.read.ensures.kept, printed)) c.read.ensures.printed;
      cause = c.read.ensures.cause;
      left = anyway c.read.result _ c.read.ensures.kept;
      silent = silent_too c.read.result _ c.read.ensures.silent;
      broken = c.read.ensures.broken;
      told = tt;
      version = c.read.ensures.version;
    })

pub returns-in-Take : goal.returns-in-Take
returns-in-Take g c =
    let before = g.F.Folder.files c.args.folder.now in
    let after = g.F.Folder.files c.take.new.folder in
    let saved = subst (λ (name : List ℕ). SavesAndPrints before after (g.W.Write.contents c.args.output.now)
    (g.W.Write.contents c.take.new.output) (IsTaken name before after) c.take.result) c.as_str-in-Take.ensures.value c.take.ensures.saved in
    ended _ c.take.result c.args.order.now _ c.in-Take.is c.take.ensures.counted (record {
      done = saved.done;
      cause = subst (λ (name : List ℕ). IfErr c.take.result (λ fault. IfSome before (λ files. IsTakeFault name files fault)))
          c.as_str-in-Take.ensures.value c.take.ensures.cause;
      left = saved.left;
      silent = silent_too c.take.result _ saved.silent;
      broken = saved.broken;
      told = c.take.ensures.told;
      version = c.take.ensures.version;
    })

pub returns-in-DropBefore : goal.returns-in-DropBefore
returns-in-DropBefore g c =
    ended _ c.drop_before.result c.args.order.now _ c.in-DropBefore.is c.drop_before.ensures.counted (record {
      done = c.drop_before.ensures.saved.done;
      cause = c.drop_before.ensures.cause;
      left = c.drop_before.ensures.saved.left;
      silent = silent_too c.drop_before.result _ c.drop_before.ensures.saved.silent;
      broken = c.drop_before.ensures.saved.broken;
      told = c.drop_before.ensures.told;
      version = c.drop_before.ensures.version;
    })

pub returns-in-Check : goal.returns-in-Check
returns-in-Check g c =
    ended _ c.check.result c.args.order.now _ c.in-Check.is c.check.ensures.counted (record {
      done = on_ok_weaker c.check.result (λ printed. (c.check.ensures.kept, printed)) c.check.ensures.printed;
      cause = both c.check.result _ _ c.check.ensures.cause c.check.ensures.at_fault;
      left = anyway c.check.result _ c.check.ensures.kept;
      silent = c.check.ensures.silent;
      broken = c.check.ensures.broken;
      told = tt;
      version = tt;
    })

pub returns-in-Stat : goal.returns-in-Stat
returns-in-Stat g c =
    ended _ c.stat.result c.args.order.now _ c.in-Stat.is c.stat.ensures.counted (record {
      done = on_ok_weaker c.stat.result (λ printed. (c.stat.ensures.kept, printed)) c.stat.ensures.printed;
      cause = c.stat.ensures.cause;
      left = anyway c.stat.result _ c.stat.ensures.kept;
      silent = silent_too c.stat.result _ c.stat.ensures.silent;
      broken = c.stat.ensures.broken;
      told = tt;
      version = c.stat.ensures.version;
    })

pub returns-in-Dump : goal.returns-in-Dump
returns-in-Dump g c =
    let files = g.F.Folder.files c.args.folder.now in
    let before = g.W.Write.contents c.args.output.now in
    let after = g.W.Write.contents c.dump.new.output in
    let name = c.as_str-in-Dump.ensures.value in
    ended _ c.dump.result c.args.order.now _ c.in-Dump.is c.dump.ensures.counted (record {
      done = on_ok_weaker c.dump.result
          (λ printed. (
            c.dump.ensures.kept,
            subst (λ (name : List ℕ). (text : List ℕ) × IsDumpedQueue name files text × Appends before after text) name printed,
          ))
          c.dump.ensures.printed;
      cause = subst (λ (name : List ℕ). IfErr c.dump.result (λ fault. IfSome files (λ held. IsDumpFault name held fault))) name
          c.dump.ensures.cause;
      left = anyway c.dump.result _ c.dump.ensures.kept;
      silent = silent_too c.dump.result _ c.dump.ensures.silent;
      broken = subst (λ (name : List ℕ). IfErr c.dump.result (λ fault. fault ≡ WriteFault → (text : List ℕ) × IsDumpedQueue name files text
          × AppendsBeginning before after text)) name c.dump.ensures.broken;
      told = tt;
      version = tt;
    })

pub returns-in-Salvage : goal.returns-in-Salvage
returns-in-Salvage g c =
    let files = g.F.Folder.files c.args.folder.now in
    let before = g.W.Write.contents c.args.output.now in
    let after = g.W.Write.contents c.salvage.new.output in
    let name = c.as_str-in-Salvage.ensures.value in
    ended _ c.salvage.result c.args.order.now _ c.in-Salvage.is c.salvage.ensures.counted (record {
      done = on_ok_weaker c.salvage.result
          (λ printed. (
            c.salvage.ensures.kept,
            subst (λ (name : List ℕ). (text : List ℕ) × IsSalvagedQueue name files text × Appends before after text) name printed,
          ))
          c.salvage.ensures.printed;
      cause = subst (λ (name : List ℕ). IfErr c.salvage.result (λ fault. IfSome files (λ held. IsSalvageFault name held fault))) name
          c.salvage.ensures.cause;
      left = anyway c.salvage.result _ c.salvage.ensures.kept;
      silent = silent_too c.salvage.result _ c.salvage.ensures.silent;
      broken = subst (λ (name : List ℕ). IfErr c.salvage.result (λ fault. fault ≡ WriteFault → (text : List ℕ) × IsSalvagedQueue name files text
          × AppendsBeginning before after text)) name c.salvage.ensures.broken;
      told = tt;
      version = tt;
    })

pub returns-in-Migrate : goal.returns-in-Migrate
returns-in-Migrate g c =
    ended _ c.migrate.result c.args.order.now _ c.in-Migrate.is c.migrate.ensures.counted (record {
      done = on_ok_weaker c.migrate.result (λ moved. (moved, Keeps-refl (g.W.Write.contents c.args.output.now))) c.migrate.ensures.migrated;
      cause = c.migrate.ensures.cause;
      left = c.migrate.ensures.left;
      silent = unwritten c.migrate.result (g.W.Write.contents c.args.output.now);
      broken = c.migrate.ensures.unprinted;
      told = c.migrate.ensures.told;
      version = tt;
    })
