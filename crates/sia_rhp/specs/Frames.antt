-- Frames: each body behind its length (RHP2; siad's modules/negotiate.go).
use Rattle.std.specs.Prelude.{ℕ, zero, suc, ◌+◌, ◌-◌, ◌==◌, nat_lt, min, List, [], ◌∷◌, length, take, drop, if◌then◌else◌, Option, Some, None, Result, Ok, Err}
use Rattle.std.specs.Int.{w64, from_le_bytes}
use Rattle.sia_encoding.specs.Spelling.{spelled_bytes}
use Rattle.sia_rhp.specs.declared.frames.FrameFault.{FrameFault}
use Rattle.sia_rhp.specs.declared.frames.FrameFault.TheVariants as fault

-- the frame of a body
abbrev pub frame_of : List ℕ → List ℕ
frame_of body = spelled_bytes body

-- The length at the front of bytes, of which `room` may be taken: none where no byte is left.
unfoldable pub length_at : ℕ → List ℕ → Result (Option ℕ) FrameFault
length_at room bytes =
    if nat_lt (length bytes) (min 8 room) then (if length bytes == 0 then Ok None else Err fault.Short)
    else if nat_lt room 8 then Err fault.Long
    else Ok (Some (from_le_bytes w64 (take 8 bytes)))

-- so many bytes, where `room` may be taken
unfoldable pub body_at : ℕ → ℕ → List ℕ → Result (Option (List ℕ)) FrameFault
body_at size room bytes =
    if nat_lt (length bytes) (min size room) then Err fault.Short
    else if nat_lt room size then Err fault.Long
    else Ok (Some (take size bytes))

-- the body behind a length that was read; a length above the limit is a fault
abbrev pub behind_length : ℕ → ℕ → List ℕ → Result (Option ℕ) FrameFault → Result (Option (List ℕ)) FrameFault
behind_length limit room bytes (Err e) = Err e
behind_length limit room bytes (Ok None) = Ok None
behind_length limit room bytes (Ok (Some size)) = if nat_lt limit size then Err (fault.TooLong size) else body_at size (room - 8) (drop 8 bytes)

-- The body of the frame at the front of bytes, of which `room` may be taken; none at an end between frames.
abbrev pub frame_at : ℕ → ℕ → List ℕ → Result (Option (List ℕ)) FrameFault
frame_at limit room bytes = behind_length limit room bytes (length_at room bytes)

-- a reader of frames, as contracts see it: the greatest length, how many bytes it may still take, and the fault that it answered
pub record Reader : Type 0 where
  pub limit : ℕ
  pub room : ℕ
  pub fault : Option FrameFault

-- how a stream of frames ends
pub data StreamEnd : Type 0 where
  Between : StreamEnd
  Faulty : FrameFault → StreamEnd

-- the bodies of a stream of frames, in order, and how it ends
pub record FrameStream : Type 0 where
  pub bodies : List (List ℕ)
  pub last : StreamEnd

-- the first body, and those behind it
abbrev pub bodies_from : (ℕ → List ℕ → FrameStream) → ℕ → List ℕ → Result (Option (List ℕ)) FrameFault → FrameStream
bodies_from more room bytes (Err e) = record { bodies = []; last = Faulty e }
bodies_from more room bytes (Ok None) = record { bodies = []; last = Between }
bodies_from more room bytes (Ok (Some body)) =
    let others = more (room - (8 + length body)) (drop (8 + length body) bytes) in
    record { bodies = body ∷ others.bodies; last = others.last }

-- the bodies at the front of bytes, at most so many of them
unfoldable pub frames_in : ℕ → ℕ → ℕ → List ℕ → FrameStream
frames_in zero limit room bytes = record { bodies = []; last = Between }
frames_in (suc n) limit room bytes = bodies_from (frames_in n limit) room bytes (frame_at limit room bytes)

-- The bodies at the front of bytes, of which `room` may be taken, and how they end. Each frame has bytes, so there are no more
-- frames than bytes.
unfoldable pub frames_of : ℕ → ℕ → List ℕ → FrameStream
frames_of limit room bytes = frames_in (suc (length bytes)) limit room bytes
