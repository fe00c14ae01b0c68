-- When a folder counts as changed, and how long one waits between looks at it. All times are in milliseconds.
use Rattle.std.specs.Prelude.{◌≡◌, ◌⊎◌, ◌-◌, ◌*◌, ◌+◌, ◌^◌, ◌<◌, ℕ, Bool, true, false, Option, None, Some, IsSomeAnd, min}
use Rattle.cq_following.specs.declared.changes.TheConstants.{LONGEST_REST, SETTLING}

-- this was less than that time ago
abbrev pub IsYounger : ℕ → Option ℕ → ℕ → Type 0
IsYounger now then age = IsSomeAnd then (λ then. now - then < age)

-- a folder counts as changed though nothing shows it: a change is so young that the times may not show another one, or it has not
-- counted so for long
abbrev pub IsDue : ℕ → Option ℕ → Option ℕ → Type 0
IsDue now changed said = IsYounger now changed SETTLING ⊎ ¬ IsYounger now said LONGEST_REST

-- the end of a time of this number of seconds, which the clock does not pass: the beginning of time where it is not known what time it is
abbrev pub end_after : Option ℕ → ℕ → ℕ
end_after None seconds = 0
end_after (Some now) seconds = min (now + min (seconds * 1000) (2 ^ 64 - 1)) (2 ^ 64 - 1)

-- the end of a time of this number of seconds from some moment on; none if it is for ever
abbrev pub IsEndOf : Option ℕ → Option ℕ → Type 0
IsEndOf None end = end ≡ None
IsEndOf (Some seconds) end = (now : Option ℕ) × (end ≡ Some (end_after now seconds))

-- how often one still looks: once more than one waits, unless the end has come
abbrev pub looks_left : Bool → ℕ → ℕ
looks_left true looks = looks
looks_left false looks = looks + 1

-- how much time is left until an end
abbrev pub left_until : Option ℕ → Option ℕ → ℕ
left_until now None = 2 ^ 64 - 1
left_until None (Some end) = 0
left_until (Some now) (Some end) = end - now

-- the end had come when the clock was looked at last, or one has waited as often as can be counted
abbrev pub HasCome : Option ℕ → Option ℕ → ℕ → Type 0
HasCome seen end looks = (left_until seen end ≡ 0) ⊎ (looks ≡ 0)

-- so it is of a time of this number of seconds
pub record IsTimeOver (seconds seen end : Option ℕ) (looks : ℕ) : Type 0 where
  pub given : IsEndOf seconds end
  pub cause : HasCome seen end looks
