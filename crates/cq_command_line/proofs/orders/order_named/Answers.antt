use Rattle.std.proofs.Common.{◌≡◌, ◌∙◌, IfOk, Result, sym}
use Rattle.std.proofs.lemmas.Result.{IfOk-weaker}
use Rattle.clap.specs.Words.{Text}
use Rattle.cq_orders.specs.declared.order.Order.{Order}
use Rattle.cq_command_line.specs.CommandLine.{word_of}
use Rattle.cq_command_line.specs.declared.orders.OrderFault.{OrderFault}
use Rattle.cq_command_line.proofs.orders.order_named.Goals as goal

-- the order of the command that the name is the word of
named : (order : Result Order OrderFault) (name word : Text) → name ≡ word → IfOk order (λ order. word_of order ≡ word)
    → IfOk order (λ order. name ≡ word_of order)
named order name word is its_word = IfOk-weaker order _ _ (λ order same. is ∙ sym same) its_word

pub returns-in-cycle-clause-named : goal.returns-in-cycle-clause-named
returns-in-cycle-clause-named c = named _ _ _ c.in-cycle.is c.cycle_order.ensures.named

pub returns-in-init-clause-named : goal.returns-in-init-clause-named
returns-in-init-clause-named c = named _ _ _ c.in-init.is c.init_order.ensures.named

pub returns-in-new-clause-named : goal.returns-in-new-clause-named
returns-in-new-clause-named c = named _ _ _ c.in-new.is c.new_order.ensures.named

pub returns-in-write-clause-named : goal.returns-in-write-clause-named
returns-in-write-clause-named c = named _ _ _ c.in-write.is c.write_order.ensures.named

pub returns-in-log-clause-named : goal.returns-in-log-clause-named
returns-in-log-clause-named c = named _ _ _ c.in-log.is c.log_order.ensures.named

pub returns-in-read-clause-named : goal.returns-in-read-clause-named
returns-in-read-clause-named c = named _ _ _ c.in-read.is c.read_order.ensures.named

pub returns-in-take-clause-named : goal.returns-in-take-clause-named
returns-in-take-clause-named c = named _ _ _ c.in-take.is c.take_order.ensures.named

pub returns-in-drop-clause-named : goal.returns-in-drop-clause-named
returns-in-drop-clause-named c = named _ _ _ c.in-drop.is c.drop_order.ensures.named

pub returns-in-trim-clause-named : goal.returns-in-trim-clause-named
returns-in-trim-clause-named c = named _ _ _ c.in-trim.is c.trim_order.ensures.named

pub returns-in-check-clause-named : goal.returns-in-check-clause-named
returns-in-check-clause-named c = named _ _ _ c.in-check.is c.check_order.ensures.named

pub returns-in-stat-clause-named : goal.returns-in-stat-clause-named
returns-in-stat-clause-named c = named _ _ _ c.in-stat.is c.stat_order.ensures.named

pub returns-in-dump-clause-named : goal.returns-in-dump-clause-named
returns-in-dump-clause-named c = named _ _ _ c.in-dump.is c.dump_order.ensures.named

pub returns-in-salvage-clause-named : goal.returns-in-salvage-clause-named
returns-in-salvage-clause-named c = named _ _ _ c.in-salvage.is c.salvage_order.ensures.named

pub returns-in-repair-clause-named : goal.returns-in-repair-clause-named
returns-in-repair-clause-named c = named _ _ _ c.in-repair.is c.repair_order.ensures.named

pub returns-in-migrate-clause-named : goal.returns-in-migrate-clause-named
returns-in-migrate-clause-named c = named _ _ _ c.in-migrate.is c.migrate_order.ensures.named

pub returns-in-race-clause-named : goal.returns-in-race-clause-named
returns-in-race-clause-named c = named _ _ _ c.in-race.is c.race_order.ensures.named

pub returns-in-name-clause-named : goal.returns-in-name-clause-named
returns-in-name-clause-named c = named _ _ _ c.in-name.is c.names_order.ensures.named

pub returns-in-explain-clause-named : goal.returns-in-explain-clause-named
returns-in-explain-clause-named c = named _ _ _ c.in-explain.is c.explain_order.ensures.named

pub returns-in-cycle-clause-values : goal.returns-in-cycle-clause-values
returns-in-cycle-clause-values c = c.cycle_order.ensures.values

pub returns-in-init-clause-values : goal.returns-in-init-clause-values
returns-in-init-clause-values c = c.init_order.ensures.values

pub returns-in-new-clause-values : goal.returns-in-new-clause-values
returns-in-new-clause-values c = c.new_order.ensures.values

pub returns-in-write-clause-values : goal.returns-in-write-clause-values
returns-in-write-clause-values c = c.write_order.ensures.values

pub returns-in-log-clause-values : goal.returns-in-log-clause-values
returns-in-log-clause-values c = c.log_order.ensures.values

pub returns-in-read-clause-values : goal.returns-in-read-clause-values
returns-in-read-clause-values c = c.read_order.ensures.values

pub returns-in-take-clause-values : goal.returns-in-take-clause-values
returns-in-take-clause-values c = c.take_order.ensures.values

pub returns-in-drop-clause-values : goal.returns-in-drop-clause-values
returns-in-drop-clause-values c = c.drop_order.ensures.values

pub returns-in-trim-clause-values : goal.returns-in-trim-clause-values
returns-in-trim-clause-values c = c.trim_order.ensures.values

pub returns-in-check-clause-values : goal.returns-in-check-clause-values
returns-in-check-clause-values c = c.check_order.ensures.values

pub returns-in-stat-clause-values : goal.returns-in-stat-clause-values
returns-in-stat-clause-values c = c.stat_order.ensures.values

pub returns-in-dump-clause-values : goal.returns-in-dump-clause-values
returns-in-dump-clause-values c = c.dump_order.ensures.values

pub returns-in-salvage-clause-values : goal.returns-in-salvage-clause-values
returns-in-salvage-clause-values c = c.salvage_order.ensures.values

pub returns-in-repair-clause-values : goal.returns-in-repair-clause-values
returns-in-repair-clause-values c = c.repair_order.ensures.values

pub returns-in-migrate-clause-values : goal.returns-in-migrate-clause-values
returns-in-migrate-clause-values c = c.migrate_order.ensures.values

pub returns-in-race-clause-values : goal.returns-in-race-clause-values
returns-in-race-clause-values c = c.race_order.ensures.values

pub returns-in-name-clause-values : goal.returns-in-name-clause-values
returns-in-name-clause-values c = c.names_order.ensures.values

pub returns-in-explain-clause-values : goal.returns-in-explain-clause-values
returns-in-explain-clause-values c = c.explain_order.ensures.values
