-- The numbers of results that this library alone has.
use Rattle.std.specs.Prelude.{ℕ}

-- fewer processors than the machine has, or a board that it does not have: the tests before exclude both
abbrev pub bad_state : ℕ
bad_state = 0x24

-- C13: a mailbox is not lawful
abbrev pub bad_mailbox : ℕ
bad_mailbox = 0x1d

-- the bus is not granted yet
abbrev pub waiting : ℕ
waiting = 0x31

-- the arbiter denied a command
abbrev pub denied : ℕ
denied = 0x32

-- the transfer goes on
abbrev pub more : ℕ
more = 0x34

-- another processor holds the object
abbrev pub busy : ℕ
busy = 0x50

-- the struct has no processor
abbrev pub closed : ℕ
closed = 0x51

-- the object has made as many steps as can be counted, or a mailbox has had as many words
abbrev pub spent : ℕ
spent = 0x52

-- another processor has the lock
abbrev pub held : ℕ
held = 0x53

-- the mailbox has as many words as slots
abbrev pub full : ℕ
full = 0x54

-- the mailbox has no word
abbrev pub empty : ℕ
empty = 0x55
