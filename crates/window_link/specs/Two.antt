-- Two linked ends as contracts see them, and which lists of events led to them.
use Rattle.std.specs.Prelude.{◌≡◌, ℕ, List, ◌∷◌, [], ◌++◌, length, slice_get, Some, None, Bool, true, false}
use Rattle.bottle_values.specs.declared.version.Version.{Version}
use Rattle.window_link.specs.declared.laws.event.End.{End}
use Rattle.window_link.specs.declared.laws.event.End.TheVariants.{Left, Right}
use Rattle.window_link.specs.declared.laws.event.Posted.{Posted}
use Rattle.window_link.specs.declared.laws.event.LinkEvent.{LinkEvent}
use Rattle.window_link.specs.declared.laws.event.LinkReply.{LinkReply}
use Rattle.window_link.specs.Links.{LinkState, fault_of}
use Rattle.window_link.specs.Streams.{Pair, IsLawful, waiting, other, happens, opening, run_of}
use Rattle.window_link.specs.declared.laws.event.LinkEvent.TheVariants.{Queue, Make, Ack, Arrive}

-- both ends as contracts see them, and every frame that was made
pub record Ends : Type 0 where
  pub left : LinkState
  pub right : LinkState
  pub frames : List Posted

-- the link at one end
abbrev pub at : Ends → End → LinkState
at t Left = t.left
at t Right = t.right

-- what the link at an end keeps of the streams
abbrev pub link_at : Pair → End → LinkState
link_at p e =
    record {
      run = p.run;
      me = p.office e;
      peer = p.office (other e);
      sending = record { acked = (p.stream e).acked; waiting = waiting (p.stream e) };
      receiving = record { taken = length (p.stream (other e)).taken; kept = (p.stream (other e)).kept };
      version = p.version;
    }

abbrev pub ends_of : Pair → Ends
ends_of p = record { left = link_at p Left; right = link_at p Right; frames = p.frames }

-- the run's number, the offices' numbers, and the version
pub record Names : Type 0 where
  pub run : ℕ
  pub left : ℕ
  pub right : ℕ
  pub version : Version

abbrev pub office_at : Names → End → ℕ
office_at names Left = names.left
office_at names Right = names.right

-- both ends after these events, from the opening
abbrev pub after : Names → List LinkEvent → Pair
after names events = run_of (opening names.run (office_at names) names.version) events

-- these events led to these ends
abbrev pub LedTo : Names → List LinkEvent → Ends → Type 0
LedTo names events t = ends_of (after names events) ≡ t

-- Some events led to these ends, and what goes each way after them is lawful.
pub record HasLawfulStreams (t : Ends) : Type 0 where
  pub names : Names
  pub events : List LinkEvent
  pub led : LedTo names events t
  pub lawful : (e : End) → IsLawful ((after names events).stream e)

-- whatever events led to the old ends, they and this one led to the new, and the answer is theirs
abbrev pub Happens : Ends → LinkEvent → LinkReply → Ends → Type 0
Happens old event reply new = (names : Names) (events : List LinkEvent) → LedTo names events old → LedTo names (events ++ event ∷ []) new × (reply ≡ (happens (after names events) event).0)

-- an end refuses none of the frames that were made for it
abbrev pub Accepts : Ends → Type 0
Accepts t = (k : ℕ) (posted : Posted) → slice_get t.frames k ≡ Some posted → fault_of (at t (other posted.by)) posted.frame ≡ None

-- over every list of events, an end refuses no frame that the other made
abbrev pub NoFrameIsRefused : Type 0
NoFrameIsRefused = (names : Names) (events : List LinkEvent) → Accepts (ends_of (after names events))

-- the event makes a frame, which takes memory
abbrev pub makes_frame : LinkEvent → Bool
makes_frame (Queue e msg) = false
makes_frame (Make e i) = true
makes_frame (Ack e) = true
makes_frame (Arrive k) = false
