use Rattle.std.proofs.Common.{◌≡◌, ◌∙◌, [], ap, map, rules, string_bytes}
use Rattle.clap.specs.Words.{found_of}
use Rattle.cq_command_line.proofs.OrderLemmas.{no_words_found, words_found}
use Rattle.cq_command_line.proofs.orders.words.Goals as goal

pub returns-in_ok-texts-in-Some : goal.returns-in_ok-texts-in-Some
returns-in_ok-texts-in-Some c =
    words_found (found_of c.args.values.now) c.args.name.now c.get_strs.result c.in-Some.given _ c.get_strs.ensures c.in-Some.is
    c.in_ok-texts-in-Some.ensures

pub returns-in-None : goal.returns-in-None
returns-in-None c =
    let empty : c.new.result.items ≡ [] = search rules in
    ap (map string_bytes) empty ∙ no_words_found (found_of c.args.values.now) c.args.name.now c.get_strs.result c.get_strs.ensures c.in-None.is
