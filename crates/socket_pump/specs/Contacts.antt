-- What is known of the ways to neighbours.
use Rattle.std.specs.Prelude.{◌≡◌, ℕ, ℤ, ◌<◌, List, get_or, take, Option, Some, None, IsSome, Result, Ok, Err}
use Rattle.std.specs.declared.net.socket_addr.SocketAddr.{SocketAddr}
use Rattle.bottle_values.specs.declared.version.Version.{Version}
use Rattle.frame_codec.specs.Frame.{Fields}
use Rattle.frame_codec.specs.Spelling.{Spells}
use Rattle.socket_pump.specs.declared.contact.Contact.{Contact}
use Rattle.socket_pump.specs.Wires.{risen}

-- nothing is known: nothing went, nothing was lost, nothing came
abbrev pub no_contact : Contact
no_contact = record { went = 0; lost = 0; cause = None; heard = 0; version = None }

-- what is known of the way to v
abbrev pub contact_with : List Contact → ℕ → Contact
contact_with contacts v = get_or contacts v no_contact

-- that of v is this one now, and the others are as they were
abbrev pub Changes : List Contact → ℕ → Contact → List Contact → Type 0
Changes before v contact after = (contact_with after v ≡ contact) × ((u : ℕ) → (u ≡ v → ⊥) → contact_with after u ≡ contact_with before u)

-- ---- frames

-- one more that the system took, or one more that it didn't, and why
abbrev pub tried : Contact → Result (Unit {0}) (Option ℤ) → Contact
tried c (Ok u) = record c { went = risen c.went }
tried c (Err cause) = record c { lost = risen c.lost; cause = cause }

-- a frame for v that was accepted went or is lost, and is counted once
abbrev pub CountsTry : List Contact → ℕ → List Contact → Type 0
CountsTry before v after = (outcome : Result (Unit {0}) (Option ℤ)) × Changes before v (tried (contact_with before v) outcome) after

-- ---- datagrams

-- these bytes came: they are a frame of v
abbrev pub IsFrameOf : ℕ → List ℕ → Type 0
IsFrameOf v bytes = (f : Fields) × Spells bytes f × (f.from ≡ v)

-- one was heard once more, now in frames of this version
abbrev pub heard_in : Version → Contact → Contact
heard_in version c = record c { heard = risen c.heard; version = Some version }

-- who sent them was heard once more, in the version that they have, and nothing else changed
abbrev pub Hears : List Contact → List ℕ → List Contact → Type 0
Hears before bytes after = (v : ℕ) → v < 16 → ((f : Fields) → Spells bytes f → f.from ≡ v → contact_with after v ≡ heard_in f.version (contact_with before v)) × ((IsFrameOf v bytes → ⊥) → contact_with after v ≡ contact_with before v)

-- ---- a wire over UDP

-- how many calls failed, where the neighbours are, and what is known of each
pub record UdpView : Type 0 where
  pub failures : ℕ
  pub peers : List (Option SocketAddr)
  pub contacts : List Contact

-- where v is, if that was told
abbrev pub address_of : List (Option SocketAddr) → ℕ → Option SocketAddr
address_of peers v = get_or peers v None

-- no call failed, no address was told, and nothing is known
pub record IsFresh (w : UdpView) : Type 0 where
  pub failures : w.failures ≡ 0
  pub peers : (v : ℕ) → address_of w.peers v ≡ None
  pub contacts : (v : ℕ) → contact_with w.contacts v ≡ no_contact

-- that v is at this address was told, and nothing else changed
pub record Finds (before : UdpView) (v : ℕ) (at : SocketAddr) (after : UdpView) : Type 0 where
  pub here : address_of after.peers v ≡ Some at
  pub others : (u : ℕ) → (u ≡ v → ⊥) → address_of after.peers u ≡ address_of before.peers u

module _ {E : Type 0} where
  -- what `receive` answered into that buffer: who sent what came was heard once more; it may fail
  abbrev pub ComesIn : UdpView → Result (Option ℕ) E → List ℕ → UdpView → Type 0
  ComesIn before (Ok (Some n)) buffer after = (after ≡ record before { contacts = after.contacts }) × Hears before.contacts (take n buffer) after.contacts
  ComesIn before (Ok None) buffer after = after ≡ before
  ComesIn before (Err e) buffer after = after ≡ record before { failures = risen before.failures }

  -- the same of `send`: it fails just where no address was told, and else the frame went or is lost
  abbrev pub GoesOut : UdpView → ℕ → Result (Unit {0}) E → UdpView → Type 0
  GoesOut before v (Ok u) after = IsSome (address_of before.peers v) × (after ≡ record before { contacts = after.contacts }) × CountsTry before.contacts v after.contacts
  GoesOut before v (Err e) after = (address_of before.peers v ≡ None) × (after ≡ record before { failures = risen before.failures })
