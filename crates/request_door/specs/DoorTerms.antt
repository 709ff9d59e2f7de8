-- What the texts of a signature state, and when a request is good.
use Rattle.std.specs.Prelude.{◌≡◌, ◌⊎◌, ℕ, ◌<◌, List, [], ◌∷◌, ◌++◌, codes, Option, Some, None, Result, Ok, Err, ℤ, pos, ◌+ℤ◌, ◌-ℤ◌, ◌≤ℤ◌, ◌<ℤ◌}
use Rattle.smithy_core.specs.Civil.{stamp}
use Rattle.smithy_core.specs.Moment.{Instant}
use Rattle.eventstream.specs.Key.{scope}
use Rattle.sigv4.specs.declared.settings.SignatureLocation.{SignatureLocation}
use Rattle.sigv4.specs.declared.settings.SignatureLocation.TheVariants.{Headers, QueryParams}
use Rattle.request_check.specs.Carried.{CutsScope}
use Rattle.request_check.specs.Sealed.{SealParts, spelled_seconds}
use Rattle.request_check.specs.Stamped.{IsWholeSecond, ReadsStamp}
use Rattle.request_door.specs.DoorCarried.{DoorTexts}
use Rattle.request_door.specs.DoorOrder.{IsFirstMet, NoneMet}
use Rattle.request_door.specs.declared.fault.DoorFault.{DoorFault}
use Rattle.request_door.specs.declared.fault.DoorFault.TheVariants.{BadDate, BadCredential, OtherService, OtherRegion, OtherDay, BadExpiry, LongExpiry, TooEarly, TooLate, NoMemory}
use Rattle.request_door.specs.declared.limits.Limits.{Limits}
use Rattle.request_door.specs.declared.terms.Terms.{Terms}

-- what the texts state: the key's id, the moment of signing, and in query form for how many seconds the request is good
pub record DoorTerms : Type 0 where
  pub key_id : List ℕ
  pub at : Instant
  pub seconds : ℕ

-- what was stated
abbrev pub stated_terms : Terms → DoorTerms
stated_terms read = record { key_id = read.key_id.now; at = read.at; seconds = read.seconds }

-- the number of seconds that an expiry spells; in header form there is none to read
abbrev pub stated_seconds : SignatureLocation → List ℕ → Option ℕ
stated_seconds Headers text = Some 0
stated_seconds QueryParams text = spelled_seconds text

-- a text doesn't end so
abbrev pub LacksEnd : List ℕ → List ℕ → Type 0
LacksEnd end text = (front : List ℕ) → text ≡ front ++ end → ⊥

-- the end of each credential
abbrev pub scope_end : List ℕ
scope_end = codes "/aws4_request"

-- that of a credential for a service
abbrev pub service_end : List ℕ → List ℕ
service_end name = codes "/" ++ name ++ scope_end

-- and that of one for a region and a service
abbrev pub region_end : List ℕ → List ℕ → List ℕ
region_end region name = codes "/" ++ region ++ codes "/" ++ name ++ scope_end

-- the tests of what the texts state, in their order
abbrev pub term_tests : List DoorFault
term_tests = BadDate ∷ BadCredential ∷ OtherService ∷ OtherRegion ∷ OtherDay ∷ BadExpiry ∷ LongExpiry ∷ []

-- a test of what the texts state: the date is no moment's stamp; the credential doesn't end with the word of a scope, or with this service's name before it,
-- or with the region before that, or with a slash and the whole scope of the date's day; the expiry is no number of 64 bits, or it is over the limit
abbrev pub MeetsTerm : List ℕ → List ℕ → Limits → DoorTexts → DoorFault → Type 0
MeetsTerm region name limits texts BadDate = ReadsStamp texts.date None
MeetsTerm region name limits texts BadCredential = LacksEnd scope_end texts.credential
MeetsTerm region name limits texts OtherService = LacksEnd (service_end name) texts.credential
MeetsTerm region name limits texts OtherRegion = LacksEnd (region_end region name) texts.credential
MeetsTerm region name limits texts OtherDay = (at : Instant) × ReadsStamp texts.date (Some at) × CutsScope (scope at region name) texts.credential None
MeetsTerm region name limits texts BadExpiry = stated_seconds texts.place texts.expires ≡ None
MeetsTerm region name limits texts LongExpiry = (seconds : ℕ) × (stated_seconds texts.place texts.expires ≡ Some seconds) × (limits.expiry < seconds)
MeetsTerm region name limits texts _ = ⊥

-- the tests of a credential's end
abbrev pub scope_tests : List DoorFault
scope_tests = BadCredential ∷ OtherService ∷ OtherRegion ∷ []

-- a test of a credential's end
abbrev pub MeetsScope : List ℕ → List ℕ → List ℕ → DoorFault → Type 0
MeetsScope region name credential BadCredential = LacksEnd scope_end credential
MeetsScope region name credential OtherService = LacksEnd (service_end name) credential
MeetsScope region name credential OtherRegion = LacksEnd (region_end region name) credential
MeetsScope region name credential _ = ⊥

-- no test of a credential's end is met, or else the first that is, unless memory ran out
abbrev pub PassesScope : List ℕ → List ℕ → List ℕ → Result (Unit {0}) DoorFault → Type 0
PassesScope region name credential (Ok _) = NoneMet (MeetsScope region name credential) scope_tests
PassesScope region name credential (Err fault) = IsFirstMet (MeetsScope region name credential) scope_tests fault ⊎ (fault ≡ NoMemory)

-- the texts state these terms: the date is the stamp of the moment, the credential is the key's id, a slash and the scope of the moment, of the region and
-- of the name, and the expiry spells the seconds
pub record TextsState (region name : List ℕ) (texts : DoorTexts) (terms : DoorTerms) : Type 0 where
  pub moment : IsWholeSecond terms.at
  pub date : stamp terms.at ≡ texts.date
  pub credential : texts.credential ≡ terms.key_id ++ codes "/" ++ scope terms.at region name
  pub expires : stated_seconds texts.place texts.expires ≡ Some terms.seconds

-- what the texts state, where no test of them is met, and else the first that is, unless memory ran out
abbrev pub ReadsDoorTerms : List ℕ → List ℕ → Limits → DoorTexts → Result Terms DoorFault → Type 0
ReadsDoorTerms region name limits texts (Ok read) = NoneMet (MeetsTerm region name limits texts) term_tests × TextsState region name texts (stated_terms read)
ReadsDoorTerms region name limits texts (Err fault) = IsFirstMet (MeetsTerm region name limits texts) term_tests fault ⊎ (fault ≡ NoMemory)

-- the expiry of a seal with these terms: in header form there is none
abbrev pub seal_expiry : SignatureLocation → DoorTerms → Option ℕ
seal_expiry Headers terms = None
seal_expiry QueryParams terms = Some terms.seconds

-- the seal that the texts are, with these terms
abbrev pub door_seal : DoorTexts → DoorTerms → SealParts
door_seal texts terms = record {
  place = texts.place;
  key_id = terms.key_id;
  at = terms.at;
  names = texts.names;
  signature = texts.signature;
  expires = seal_expiry texts.place terms;
}

-- ---- the time

-- the first second in which a request is good: in header form the moment of signing without the greatest skew, and in query form that moment
abbrev pub good_from : SignatureLocation → Limits → DoorTerms → ℤ
good_from Headers limits terms = terms.at.secs -ℤ pos limits.skew
good_from QueryParams limits terms = terms.at.secs

-- the first second in which it isn't good any more: in header form the one after the moment with the greatest skew, and in query form the moment and the expiry
abbrev pub good_until : SignatureLocation → Limits → DoorTerms → ℤ
good_until Headers limits terms = terms.at.secs +ℤ pos limits.skew +ℤ pos 1
good_until QueryParams limits terms = terms.at.secs +ℤ pos terms.seconds

-- the tests of the time
abbrev pub time_tests : List DoorFault
time_tests = TooEarly ∷ TooLate ∷ []

-- a test of the time: it is too early, or too late
abbrev pub MeetsTime : SignatureLocation → Limits → Instant → DoorTerms → DoorFault → Type 0
MeetsTime place limits now terms TooEarly = now.secs <ℤ good_from place limits terms
MeetsTime place limits now terms TooLate = good_until place limits terms ≤ℤ now.secs
MeetsTime place limits now terms _ = ⊥

-- the second in which the request's time ends, where no test of the time is met, and else the first that is
abbrev pub TestsTime : SignatureLocation → Limits → Instant → DoorTerms → Result ℤ DoorFault → Type 0
TestsTime place limits now terms (Ok until) = NoneMet (MeetsTime place limits now terms) time_tests × (until ≡ good_until place limits terms)
TestsTime place limits now terms (Err fault) = IsFirstMet (MeetsTime place limits now terms) time_tests fault
