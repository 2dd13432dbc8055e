-- A packet that was read, and one that was written, as structs (crates/shapes/specs/Shapes.antt).
use Rattle.std.specs.Prelude.{ℕ}
use Rattle.answer.specs.Answer.{Out, refused, done}
use Rattle.framing.specs.Clear.{Read, need, packet}
use Rattle.framing.specs.declared.Counters.{Counters}
use Rattle.frames.specs.declared.Frame.{Frame}
use Rattle.frames.specs.declared.Sealed.{Sealed}

-- no packet, but what it is, a refusal's number and offset, or how many bytes are needed
abbrev pub no_packet : ℕ → ℕ → ℕ → ℕ → Frame
no_packet what number offset more =
    record { what = what; number = number; offset = offset; need = more; start = 0; len = 0; end = 0; taken = 0; seqn = 0; bytes = 0 }

unfoldable pub frame_of : Out Read → Frame
frame_of (refused r) = no_packet 0 r.number r.offset 0
frame_of (done (need n)) = no_packet 2 0 0 n
frame_of (done (packet p)) =
    record {
      what = 1;
      number = 0;
      offset = 0;
      need = 0;
      start = p.payload.start;
      len = p.payload.len;
      end = p.end;
      taken = p.taken;
      seqn = p.counters.seqn;
      bytes = p.counters.bytes;
    }

unfoldable pub sealed_of : Out (ℕ × Counters) → Sealed
sealed_of (refused r) = record { what = 0; number = r.number; len = 0; seqn = 0; bytes = 0 }
sealed_of (done (n, k)) = record { what = 1; number = 0; len = n; seqn = k.seqn; bytes = k.bytes }
