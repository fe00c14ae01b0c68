-- The numbers of statuses.
use Rattle.std.specs.Prelude.{ℕ}
use Rattle.linnetshelf.specs.declared.status.Status.{Status}
use Rattle.linnetshelf.specs.declared.status.Status.TheVariants as status

-- the number that C has for a status
abbrev pub number : Status → ℕ
number status.Done = 0
number status.NotYet = 1
number status.BeforeStart = 2
number status.Never = 3
number status.Gone = 4
number status.NoMessage = 5
number status.NoRoom = 6
number status.Moved = 7
number status.Busy = 8
number status.CycleFull = 9
number status.NoCycleLeft = 10
number status.BadRoom = 11
number status.BadMoment = 12
number status.Writing = 13
number status.NotWriting = 14
number status.PastRoom = 15
number status.EmptyMessage = 16
number status.NotSeen = 17
number status.NoSuchName = 18
number status.BadDirection = 19
number status.BadSettings = 20
number status.BadContents = 21
number status.BehindOpen = 22
number status.Cut = 23
number status.BadHeader = 24
number status.Unfinished = 25
number status.WrongStore = 26
number status.WrongTable = 27
number status.BadPadding = 28
number status.AfterEnd = 29
number status.OverShape = 30
number status.NoSuchPlace = 31
number status.InUse = 32
number status.WrongKind = 33
number status.OutOfMemory = 34
number status.Closed = 35
number status.Finished = 36
number status.Full = 37
number status.Missed = 38
number status.BadShelf = 39
number status.NoCall = 40
number status.LogStopped = 41
number status.LongFrame = 42
number status.LogFull = 43
number status.LongHead = 44
number status.BadHead = 45
number status.OtherLog = 46
number status.BadTurn = 47
number status.BadGain = 48
