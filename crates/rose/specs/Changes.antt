-- What the end holds as a call changes it.
use Rattle.records.specs.declared.State.{State}
use Rattle.records.specs.State.{add_peer, retire_own, retire_peer, forget_own}
use Rattle.records.specs.Held.{Held, in_state, drop_answer}
use Rattle.protocol.specs.declared.Invocation.{Invocation}
use Rattle.protocol.specs.declared.Invocation.TheVariants.{Own, Peer}
use Rattle.rose.specs.declared.change.Change.{Change}
use Rattle.rose.specs.declared.change.Change.TheVariants.{Unchanged, Adds, Drops, Retires}

-- a peer record comes, or none, and the kept answer of an id goes; or an own record goes
abbrev pub after : Held → Change → Held
after s Unchanged = s
after s (Adds i c) = drop_answer (in_state s (add_peer s.state i c)) i
after s (Drops i) = drop_answer s i
after s (Retires i) = in_state s (retire_own s.state i)

abbrev pub without_invocation : State → Invocation → State
without_invocation s (Own i) = forget_own s i
without_invocation s (Peer i) = retire_peer s i
