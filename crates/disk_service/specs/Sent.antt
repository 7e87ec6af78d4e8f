-- What a client has sent.
use Rattle.std.specs.Prelude.{◌≡◌, ◌++◌, ⊤, ℕ, List, Option}
use Rattle.std.specs.Io.KnownBytes.{Consumes}
use Rattle.nbd_words.specs.Fields.{words_of}
use Rattle.nbd_words.specs.Request.{request_bytes}
use Rattle.nbd_words.specs.declared.request.Request.{Request}
use Rattle.disk_service.specs.declared.jobs.Job.{Job}
use Rattle.disk_service.specs.declared.jobs.Job.TheVariants.{Do, Refuse, Leave}

-- between two states of a stream lay the data of this request, which the job has, or for which there was no memory
abbrev pub IsSentBehind : Option (List ℕ) → Option (List ℕ) → Request → Job → Type 0
IsSentBehind before after request (Do received) = (received.request ≡ request) × Consumes before after received.bytes.items
IsSentBehind before after request (Refuse cookie) = cookie ≡ request.cookie
IsSentBehind before after request Leave = ⊥

-- between them lay the request of the job, and then its data
abbrev pub IsSent : Option (List ℕ) → Option (List ℕ) → Job → Type 0
IsSent before after (Do received) = Consumes before after (request_bytes (words_of received.request) ++ received.bytes.items)
IsSent before after (Refuse cookie) = ⊤
IsSent before after Leave = ⊥
