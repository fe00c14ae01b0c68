-- What is left of a queue whose last endpoint stops it.
use Rattle.cq_endpoint.specs.Endpoints.{EndpointFacts}
use Rattle.cq_endpoint.specs.Works.{Ends}
use Rattle.cq_shown.specs.Stopping.{StoppedFacts}
use Rattle.cq_words.specs.Steps.{Stops}
use Rattle.cq_words.specs.Values.{CallerFacts, Met}

-- the queue stopped as its endpoint had seen it: a message that was begun is given up, what the appender and the tailer have
-- seen is brought together, and the stopped history begins with that
pub record StopsQueue (e : EndpointFacts) (stopped : StoppedFacts) : Type 0 where
  pub writer : CallerFacts
  pub ended : Ends e.queue e.work writer
  pub one : CallerFacts
  pub other : CallerFacts
  pub met : Met writer e.tailer.caller one other
  pub stops : Stops one.view stopped
