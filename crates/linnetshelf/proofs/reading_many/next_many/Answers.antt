use Rattle.std.proofs.Common.{◌≡◌, ◌<◌, ◌≤◌, ◌-◌, [], arith, drop, length, refl, subst, sym, take}
use Rattle.std.proofs.lemmas.List.{take-append-drop}
use Rattle.cq_endpoint.specs.Endpoints.{EndpointFacts}
use Rattle.cq_endpoint.specs.Reads.{NextIntoSays}
use Rattle.cq_endpoint.specs.declared.answers.NextInto.TheVariants.{Message}
use Rattle.linnetshelf.specs.Many.{InTurn, ReadsFront, ReadsMany, reading}
use Rattle.linnetshelf.specs.declared.many.ManyRead.{ManyRead}
use Rattle.linnetshelf.proofs.Turns.{changes_tailer, others_more, reads_more, within_written}
use Rattle.linnetshelf.proofs.reading_many.next_many.Goals as goal

pub loop-count-preserved : goal.loop-count-preserved
loop-count-preserved c =
    let below : c.loop-count.count < length c.loop-count.answers = omega arith in
    let fits : c.in-Message.length ≤ length c.next_into.new.room = c.in-Message.ensures.fits in
    let left = take (length c.loop-count.room - c.loop-count.end) (drop c.loop-count.end c.loop-count.room) in
    let says : NextIntoSays c.args.endpoint.now.queue c.loop-count.endpoint.tailer c.next_into.new.self.tailer left
    c.next_into.new.room (Message c.value-last.result c.in-Message.length) =
    subst (λ i. NextIntoSays c.args.endpoint.now.queue c.loop-count.endpoint.tailer c.next_into.new.self.tailer left
    c.next_into.new.room (Message i c.in-Message.length)) (sym c.value-last.ensures)
    (subst (λ (e : EndpointFacts). NextIntoSays e.queue c.loop-count.endpoint.tailer c.next_into.new.self.tailer left
    c.next_into.new.room (Message c.in-Message.index c.in-Message.length)) c.loop-count.invariant.stays
    c.in-Message.ensures.says) in
    record {
      within = within_written c.loop-count.end c.in-Message.length c.loop-count.room c.next_into.new.room
          c.loop-count.invariant.within fits;
      read = reads_more c.args.endpoint.now.queue (reading c.args.endpoint.now.tailer [] c.args.room.now 0)
          c.loop-count.answers c.loop-count.count c.read.result c.loop-count.endpoint.tailer c.next_into.new.self.tailer
          c.loop-count.room c.next_into.new.room c.loop-count.end c.loop-count.last c.value-last.result
          c.in-Message.length below c.loop-count.invariant.within fits c.read.ensures c.loop-count.invariant.read says;
      others = others_more c.args.answers.now c.loop-count.answers c.loop-count.count c.read.result
          c.loop-count.invariant.others;
      stays = changes_tailer c.args.endpoint.now c.loop-count.endpoint c.next_into.new.self c.loop-count.invariant.stays
          c.next_into.ensures.rest;
    }

pub returns-clause-says : goal.returns-clause-says
returns-clause-says c =
    let all : c.loop-count.count ≡ length c.loop-count.answers = omega arith in
    subst (λ (said : ManyRead). ReadsMany c.args.endpoint.now.queue c.args.endpoint.now.tailer c.loop-count.endpoint.tailer
    c.args.room.now c.loop-count.room c.args.answers.now c.loop-count.answers said) (sym c.new-2.ensures) (record {
      at = reading c.loop-count.endpoint.tailer (take c.loop-count.end c.loop-count.room)
          (drop c.loop-count.end c.loop-count.room) c.loop-count.last;
      read = subst (λ k. InTurn (ReadsFront c.args.endpoint.now.queue) (reading c.args.endpoint.now.tailer []
          c.args.room.now 0) (take k c.loop-count.answers) (reading c.loop-count.endpoint.tailer
          (take c.loop-count.end c.loop-count.room) (drop c.loop-count.end c.loop-count.room) c.loop-count.last)) all
          c.loop-count.invariant.read;
      others = subst (λ k. drop k c.loop-count.answers ≡ drop k c.args.answers.now) all c.loop-count.invariant.others;
      last = refl;
      no_more = (c.loop-count.auto.answers, refl, sym (take-append-drop c.loop-count.end c.loop-count.room));
    })
