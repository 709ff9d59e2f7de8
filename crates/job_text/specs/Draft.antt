-- What the reader of a job promises of its draft and of the job.
use Rattle.std.specs.Prelude.{◌≡◌, ℕ, Result, Ok, Err, Option, Some, None, option_map, string_bytes}
use Rattle.job_text.specs.Job.{Event, Draft, JobParts}
use Rattle.job_text.specs.RequestLines.{request_drafted}
use Rattle.job_text.specs.declared.job.event.OpenEvent.{OpenEvent}
use Rattle.job_text.specs.declared.job.draft.Draft.{Draft as JobDraft}
use Rattle.job_text.specs.declared.job.Job.{Job}
use Rattle.job_text.specs.declared.fault.JobFault.{JobFault}
use Rattle.job_text.specs.declared.fault.JobFault.TheVariants.{BadLine, NoMemory}
use Rattle.job_text.specs.declared.fault.LineFault.{LineFault}
use Rattle.job_text.specs.declared.fault.LineFault.TheVariants.{Bad, NoMemory as LineNoMemory}

-- the lists of an event
abbrev pub event_of : OpenEvent → Event
event_of event = record { headers = event.headers.items; payload = event.payload }

-- the texts and lists of a draft
unfoldable pub draft_of : JobDraft → Draft
draft_of draft =
    record {
      request = request_drafted draft.request;
      events = draft.events.items;
      event = option_map event_of draft.event;
    }

-- what is given is what the text spells, unless memory ran out
abbrev pub GivesSpelled : {A : Type 0} → Option A → Result A LineFault → Type 0
GivesSpelled spelled (Ok given) = spelled ≡ Some given
GivesSpelled spelled (Err Bad) = spelled ≡ None
GivesSpelled spelled (Err LineNoMemory) = Unit {0}

-- the texts and lists of a job
abbrev pub job_parts : Job → JobParts
job_parts job = record {
  method = string_bytes job.request.method;
  target = string_bytes job.request.target;
  headers = job.request.headers;
  body = job.request.body;
  config = option_map string_bytes job.config;
  credentials = option_map string_bytes job.credentials;
  events = job.events.items;
}

-- the job is the one that is read; or the line at this place is bad; or memory ran out
abbrev pub ReadsJob : Result JobParts ℕ → Result Job JobFault → Type 0
ReadsJob read (Ok job) = read ≡ Ok (job_parts job)
ReadsJob read (Err (BadLine place)) = read ≡ Err place
ReadsJob read (Err NoMemory) = Unit {0}
