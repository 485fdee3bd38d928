-- Requests: a label, and what requests of that label hold (RHP2; siad's modules/negotiate.go).
use Rattle.std.specs.Prelude.{ℕ, List, Option, Some, None}
use Rattle.sia_encoding.specs.Codec.{Codec}
use Rattle.sia_encoding.specs.Items.{byte_string, list_of}
use Rattle.sia_encoding.specs.Records.{choice, variant, nothing}
use Rattle.sia_types.specs.declared.signature.Signature.{Signature}
use Rattle.sia_types.specs.declared.transaction.Transaction.{Transaction}
use Rattle.sia_types.specs.Signatures.{signature}
use Rattle.sia_types.specs.Transaction.{transaction}
use Rattle.sia_rhp.specs.declared.label.Label.{Label}
use Rattle.sia_rhp.specs.declared.label.Label.TheVariants as label
use Rattle.sia_rhp.specs.declared.request.Request.{Request}
use Rattle.sia_rhp.specs.declared.request.Request.TheVariants as requests
use Rattle.sia_rhp.specs.declared.request_bodies.FormRequest.{FormRequest}
use Rattle.sia_rhp.specs.declared.request_bodies.LockRequest.{LockRequest}
use Rattle.sia_rhp.specs.declared.request_bodies.WriteRequest.{WriteRequest}
use Rattle.sia_rhp.specs.declared.request_bodies.ReadRequest.{ReadRequest}
use Rattle.sia_rhp.specs.declared.request_bodies.PaidRoots.{PaidRoots}
use Rattle.sia_rhp.specs.Labels.{labels}
use Rattle.sia_rhp.specs.RequestBodies.{form_request, lock_request, write_request, read_request, paid_roots}

-- the label of a request
abbrev pub label_of_request : Request → Label
label_of_request requests.Settings = label.Settings
label_of_request (requests.FormContract body) = label.FormContract
label_of_request (requests.FormSign body) = label.FormSign
label_of_request (requests.Lock body) = label.Lock
label_of_request requests.Unlock = label.Unlock
label_of_request (requests.Write body) = label.Write
label_of_request (requests.WriteSign body) = label.WriteSign
label_of_request (requests.Read body) = label.Read
label_of_request (requests.Roots body) = label.Roots
label_of_request (requests.Renew body) = label.Renew
label_of_request (requests.RenewSign body) = label.RenewSign
label_of_request requests.LoopExit = label.LoopExit

-- that a request is one of `Settings`
abbrev pub settings_asked : Request → Option (Unit {0})
settings_asked requests.Settings = Some tt
settings_asked _ = None

-- what a request of `FormContract` holds
abbrev pub form_contract_asked : Request → Option (FormRequest)
form_contract_asked (requests.FormContract body) = Some body
form_contract_asked _ = None

-- what a request of `FormSign` holds
abbrev pub form_sign_asked : Request → Option (List Signature)
form_sign_asked (requests.FormSign body) = Some body
form_sign_asked _ = None

-- what a request of `Lock` holds
abbrev pub lock_asked : Request → Option (LockRequest)
lock_asked (requests.Lock body) = Some body
lock_asked _ = None

-- that a request is one of `Unlock`
abbrev pub unlock_asked : Request → Option (Unit {0})
unlock_asked requests.Unlock = Some tt
unlock_asked _ = None

-- what a request of `Write` holds
abbrev pub write_asked : Request → Option (WriteRequest)
write_asked (requests.Write body) = Some body
write_asked _ = None

-- what a request of `WriteSign` holds
abbrev pub write_sign_asked : Request → Option (List ℕ)
write_sign_asked (requests.WriteSign body) = Some body
write_sign_asked _ = None

-- what a request of `Read` holds
abbrev pub read_asked : Request → Option (ReadRequest)
read_asked (requests.Read body) = Some body
read_asked _ = None

-- what a request of `Roots` holds
abbrev pub roots_asked : Request → Option (PaidRoots)
roots_asked (requests.Roots body) = Some body
roots_asked _ = None

-- what a request of `Renew` holds
abbrev pub renew_asked : Request → Option (Transaction)
renew_asked (requests.Renew body) = Some body
renew_asked _ = None

-- what a request of `RenewSign` holds
abbrev pub renew_sign_asked : Request → Option (List Signature)
renew_sign_asked (requests.RenewSign body) = Some body
renew_sign_asked _ = None

-- that a request is one of `LoopExit`
abbrev pub loop_exit_asked : Request → Option (Unit {0})
loop_exit_asked requests.LoopExit = Some tt
loop_exit_asked _ = None

-- what the requests of a label hold
abbrev pub request_behind : Label → Codec Request
request_behind label.Settings = variant nothing (λ body. requests.Settings) settings_asked
request_behind label.FormContract = variant form_request (λ body. requests.FormContract body) form_contract_asked
request_behind label.FormSign = variant (list_of signature) (λ body. requests.FormSign body) form_sign_asked
request_behind label.Lock = variant lock_request (λ body. requests.Lock body) lock_asked
request_behind label.Unlock = variant nothing (λ body. requests.Unlock) unlock_asked
request_behind label.Write = variant write_request (λ body. requests.Write body) write_asked
request_behind label.WriteSign = variant byte_string (λ body. requests.WriteSign body) write_sign_asked
request_behind label.Read = variant read_request (λ body. requests.Read body) read_asked
request_behind label.Roots = variant paid_roots (λ body. requests.Roots body) roots_asked
request_behind label.Renew = variant transaction (λ body. requests.Renew body) renew_asked
request_behind label.RenewSign = variant (list_of signature) (λ body. requests.RenewSign body) renew_sign_asked
request_behind label.LoopExit = variant nothing (λ body. requests.LoopExit) loop_exit_asked

-- a request: its label, and what requests of that label hold
abbrev pub request : Codec Request
request = choice labels label_of_request request_behind
