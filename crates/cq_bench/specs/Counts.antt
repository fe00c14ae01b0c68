-- How many messages a caller has appended and read: its own calls that were answered so.
use Rattle.std.specs.Prelude.{ℕ, Bool, false, sum_by, true}
use Rattle.cq_model.specs.declared.history.Answer.{Answer}
use Rattle.cq_model.specs.declared.history.Answer.TheVariants.{Found, Written}
use Rattle.cq_words.specs.Values.{CallerFacts}

-- one for a message that was appended
abbrev pub appended : Answer → ℕ
appended (Written i) = 1
appended _ = 0

-- one for a message that was read
abbrev pub read : Answer → ℕ
read (Found i m) = 1
read _ = 0

-- how many messages a look read that answered whether one had come
abbrev pub of_a_look : Bool → ℕ
of_a_look true = 1
of_a_look false = 0

-- how many messages a caller has appended
abbrev pub messages_appended : CallerFacts → ℕ
messages_appended caller = sum_by (λ e. appended e.answer) caller.view.mine

-- how many messages a caller has read
abbrev pub messages_read : CallerFacts → ℕ
messages_read caller = sum_by (λ e. read e.answer) caller.view.mine
