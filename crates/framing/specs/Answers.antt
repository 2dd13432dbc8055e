-- What the answers of the code mean.
use Rattle.std.specs.Prelude.{ℕ, List, length, Result, Ok, Err}
use Rattle.answer.specs.declared.Cause.{Cause}
use Rattle.answer.specs.declared.Refusal.{Refusal as Answered}
use Rattle.answer.specs.Refusal.{number as number_of}
use Rattle.answer.specs.Answer.{Out, done, refuse, outcome, ◌>>=◌}
use Rattle.put.specs.Written.{written}
use Rattle.framing.specs.declared.Counters.{Counters}
use Rattle.framing.specs.declared.Opened.{Opened}
use Rattle.framing.specs.declared.Opened.TheVariants.{Need, Whole}
use Rattle.framing.specs.declared.Sealed.{Sealed}
use Rattle.framing.specs.Clear.{Read, need, packet, packet_of, counted}

abbrev pub opened : Opened → Read
opened (Need n) = need n
opened (Whole p) = packet p

abbrev pub got_packet : Result Opened Answered → Out Read
got_packet r = outcome opened r

abbrev pub wrote : Result Sealed Cause → Out (ℕ × Counters)
wrote (Ok s) = done (s.total, s.counters)
wrote (Err c) = refuse (number_of c)

-- what writing a payload at the front of the lent output answers: how many bytes were written, and the new counters
unfoldable pub sealing : List ℕ → List ℕ → Counters → Out (ℕ × Counters)
sealing out payload k = do
  n ← written out 0 (packet_of payload)
  done (n, counted (length payload) k)
