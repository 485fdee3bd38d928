-- The law of requests.
use Rattle.std.proofs.Common.{◌≡◌, ℕ, List, Some, refl}
use Rattle.sia_encoding.specs.Codec.{Lawful}
use Rattle.sia_encoding.specs.ItemLaws.{byte_string_law, list_law}
use Rattle.sia_encoding.specs.RecordLaws.{choice_law, variant_law, nothing_law}
use Rattle.sia_types.specs.declared.signature.Signature.{Signature}
use Rattle.sia_types.specs.declared.transaction.Transaction.{Transaction}
use Rattle.sia_types.specs.Signatures.{signature_law}
use Rattle.sia_types.specs.Transaction.{transaction_law}
use Rattle.sia_rhp.specs.declared.label.Label.{Label}
use Rattle.sia_rhp.specs.declared.label.Label.TheVariants as label
use Rattle.sia_rhp.specs.declared.request.Request.{Request}
use Rattle.sia_rhp.specs.declared.request.Request.TheVariants as requests
use Rattle.sia_rhp.specs.declared.request_bodies.FormRequest.{FormRequest}
use Rattle.sia_rhp.specs.declared.request_bodies.LockRequest.{LockRequest}
use Rattle.sia_rhp.specs.declared.request_bodies.WriteRequest.{WriteRequest}
use Rattle.sia_rhp.specs.declared.request_bodies.ReadRequest.{ReadRequest}
use Rattle.sia_rhp.specs.declared.request_bodies.PaidRoots.{PaidRoots}
use Rattle.sia_rhp.specs.LabelLaws.{labels_law}
use Rattle.sia_rhp.specs.RequestBodies.{form_request_law, lock_request_law, write_request_law, read_request_law, paid_roots_law}
use Rattle.sia_rhp.specs.Requests.{label_of_request, request_behind, request, settings_asked, form_contract_asked, form_sign_asked, lock_asked, unlock_asked, write_asked, write_sign_asked, read_asked, roots_asked, renew_asked, renew_sign_asked, loop_exit_asked}

same_label : (l : Label) (limit : ℕ) (r : Request) → (request_behind l).fits limit r → label_of_request r ≡ l
same_label label.Settings limit requests.Settings fits = refl
same_label label.FormContract limit (requests.FormContract body) fits = refl
same_label label.FormSign limit (requests.FormSign body) fits = refl
same_label label.Lock limit (requests.Lock body) fits = refl
same_label label.Unlock limit requests.Unlock fits = refl
same_label label.Write limit (requests.Write body) fits = refl
same_label label.WriteSign limit (requests.WriteSign body) fits = refl
same_label label.Read limit (requests.Read body) fits = refl
same_label label.Roots limit (requests.Roots body) fits = refl
same_label label.Renew limit (requests.Renew body) fits = refl
same_label label.RenewSign limit (requests.RenewSign body) fits = refl
same_label label.LoopExit limit requests.LoopExit fits = refl
same_label _ limit _ fits = absurd fits

settings_again : (r : Request) (p : Unit {0}) → settings_asked r ≡ Some p → requests.Settings ≡ r
settings_again requests.Settings p is = refl
settings_again _ p is = (cc)

form_contract_again : (r : Request) (p : FormRequest) → form_contract_asked r ≡ Some p → requests.FormContract p ≡ r
form_contract_again (requests.FormContract body) p is = (cc)
form_contract_again _ p is = (cc)

form_sign_again : (r : Request) (p : List Signature) → form_sign_asked r ≡ Some p → requests.FormSign p ≡ r
form_sign_again (requests.FormSign body) p is = (cc)
form_sign_again _ p is = (cc)

lock_again : (r : Request) (p : LockRequest) → lock_asked r ≡ Some p → requests.Lock p ≡ r
lock_again (requests.Lock body) p is = (cc)
lock_again _ p is = (cc)

unlock_again : (r : Request) (p : Unit {0}) → unlock_asked r ≡ Some p → requests.Unlock ≡ r
unlock_again requests.Unlock p is = refl
unlock_again _ p is = (cc)

write_again : (r : Request) (p : WriteRequest) → write_asked r ≡ Some p → requests.Write p ≡ r
write_again (requests.Write body) p is = (cc)
write_again _ p is = (cc)

write_sign_again : (r : Request) (p : List ℕ) → write_sign_asked r ≡ Some p → requests.WriteSign p ≡ r
write_sign_again (requests.WriteSign body) p is = (cc)
write_sign_again _ p is = (cc)

read_again : (r : Request) (p : ReadRequest) → read_asked r ≡ Some p → requests.Read p ≡ r
read_again (requests.Read body) p is = (cc)
read_again _ p is = (cc)

roots_again : (r : Request) (p : PaidRoots) → roots_asked r ≡ Some p → requests.Roots p ≡ r
roots_again (requests.Roots body) p is = (cc)
roots_again _ p is = (cc)

renew_again : (r : Request) (p : Transaction) → renew_asked r ≡ Some p → requests.Renew p ≡ r
renew_again (requests.Renew body) p is = (cc)
renew_again _ p is = (cc)

renew_sign_again : (r : Request) (p : List Signature) → renew_sign_asked r ≡ Some p → requests.RenewSign p ≡ r
renew_sign_again (requests.RenewSign body) p is = (cc)
renew_sign_again _ p is = (cc)

loop_exit_again : (r : Request) (p : Unit {0}) → loop_exit_asked r ≡ Some p → requests.LoopExit ≡ r
loop_exit_again requests.LoopExit p is = refl
loop_exit_again _ p is = (cc)

behind_law : (l : Label) → Lawful (request_behind l)
behind_law label.Settings = variant_law (λ body. requests.Settings) settings_asked (λ p. refl) settings_again nothing_law
behind_law label.FormContract = variant_law (λ body. requests.FormContract body) form_contract_asked (λ p. refl) form_contract_again form_request_law
behind_law label.FormSign = variant_law (λ body. requests.FormSign body) form_sign_asked (λ p. refl) form_sign_again (list_law signature_law)
behind_law label.Lock = variant_law (λ body. requests.Lock body) lock_asked (λ p. refl) lock_again lock_request_law
behind_law label.Unlock = variant_law (λ body. requests.Unlock) unlock_asked (λ p. refl) unlock_again nothing_law
behind_law label.Write = variant_law (λ body. requests.Write body) write_asked (λ p. refl) write_again write_request_law
behind_law label.WriteSign = variant_law (λ body. requests.WriteSign body) write_sign_asked (λ p. refl) write_sign_again byte_string_law
behind_law label.Read = variant_law (λ body. requests.Read body) read_asked (λ p. refl) read_again read_request_law
behind_law label.Roots = variant_law (λ body. requests.Roots body) roots_asked (λ p. refl) roots_again paid_roots_law
behind_law label.Renew = variant_law (λ body. requests.Renew body) renew_asked (λ p. refl) renew_again transaction_law
behind_law label.RenewSign = variant_law (λ body. requests.RenewSign body) renew_sign_asked (λ p. refl) renew_sign_again (list_law signature_law)
behind_law label.LoopExit = variant_law (λ body. requests.LoopExit) loop_exit_asked (λ p. refl) loop_exit_again nothing_law

-- what is read as a request is spelled so, and what is spelled so is read
pub request_law : Lawful request
request_law = choice_law label_of_request request_behind same_label labels_law behind_law
