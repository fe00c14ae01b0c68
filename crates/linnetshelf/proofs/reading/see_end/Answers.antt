use Rattle.std.proofs.Common.{◌≡◌, ◌≤◌, ◌∙◌, ap, arith, subst, ℕ}
use Rattle.cq_endpoint.specs.Endpoints.{ChangesTailer, EndpointFacts, child, endpoint_of}
use Rattle.cq_endpoint.specs.Meetings.{EndpointsMet}
use Rattle.cq_model.specs.declared.history.Answer.TheVariants.{Ends}
use Rattle.cq_model.specs.declared.history.Event.TheVariants.{End}
use Rattle.cq_tail.specs.Tailers.{Answered}
use Rattle.linnetshelf.specs.Makes.{parent_of}
use Rattle.linnetshelf.specs.Reads.{LooksUpEnd}
use Rattle.linnetshelf.proofs.reading.see_end.Goals as goal

-- an endpoint that was split off moved to the end, and then both met
looks_up : (old split new e moved other : EndpointFacts) (end : ℕ) → e ≡ endpoint_of old.queue (child old.parent)
    → split ≡ parent_of old → Answered e.queue e.tailer moved.tailer End (Ends end) end → ChangesTailer e moved
    → EndpointsMet split moved new other → LooksUpEnd old new end
looks_up old split new e moved other end is parent answered stays met =
    let first : EndpointFacts = endpoint_of old.queue (child old.parent) in
    let told : Answered first.queue first.tailer moved.tailer End (Ends end) end =
    subst (λ (it : EndpointFacts). Answered it.queue it.tailer moved.tailer End (Ends end) end) is answered in
    let moved_is : moved ≡ record first { tailer = moved.tailer } =
    stays ∙ ap (λ (it : EndpointFacts). record it { tailer = moved.tailer }) is in
    let both : EndpointsMet (parent_of old) (record first { tailer = moved.tailer }) new other =
    subst (λ it. EndpointsMet it (record first { tailer = moved.tailer }) new other) parent
    (subst (λ it. EndpointsMet split it new other) moved_is met) in
    let at_end : moved.tailer.cursor ≡ end = told.cursor in
    let seen : moved.tailer.cursor ≤ moved.tailer.caller.seen_end = told.tailer.cursor in
    let heard : moved.tailer.caller.seen_end ≤ both.end = both.second.reader.ends.0 in
    let hears : both.end ≤ new.tailer.caller.seen_end = both.first.reader.ends.1 in
    record {
      looked = moved.tailer;
      told = told;
      other = other;
      met = both;
      stays = both.first.stays;
      seen = omega (arith, at_end, seen, heard, hears);
    }

pub returns-in-Ok : goal.returns-in-Ok
returns-in-Ok c = looks_up c.args.endpoint.now c.split.new.self c.meet.new.self c.in-Ok.other c.to_end-end.new.self
    c.meet.new.other c.to_end-end.result c.in-Ok.ensures.made c.in-Ok.ensures.parent c.to_end-end.ensures.says
    c.to_end-end.ensures.rest c.meet.ensures
