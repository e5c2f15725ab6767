-- The blobs of files that proxies keep are in use.
use Rattle.std.proofs.Common.{◌≡◌, ℕ, ◌≤◌, List, sym, subst}
use Rattle.std.specs.Prelude.{IsTrue}
use Rattle.repo_model.specs.Data.{Row, Proxy}
use Rattle.repo_model.specs.Effect.{with_number, with_row}
use Rattle.repo_model.specs.Reply.{Reply, created, staged}
use Rattle.repo_model.specs.State.{change_first, is_proxy, is_among}
use Rattle.repo_laws.specs.Laws.{cached_with, count_of}
use Rattle.repo_laws.proofs.HoldingLists.{all-change_first}
use Rattle.repo_parts.specs.Deploys.{kept_staged}
use Rattle.repo_parts.specs.Numbers.{kept_put}
use Rattle.repo_parts.specs.Proxies.{AreCachedInUse}
use Rattle.repo_parts.specs.Purge.{kept_without}
use Rattle.repo_parts.proofs.AmongLemmas.{used-more, used-still}
use Rattle.repo_parts.proofs.UseLemmas.{RowsUsed, row-more}

-- ---- more numbers are in use
pub cached-more : (kept : List ℕ) (n : ℕ) (proxies : List Proxy) → AreCachedInUse kept proxies → AreCachedInUse (with_number n kept) proxies
cached-more kept n proxies used = used-more (λ (row : Row). row.blob.number) (λ (p : Proxy). p.files) kept n proxies used

pub cached-put : (n : ℕ) (reply : Reply) (kept : List ℕ) (proxies : List Proxy) → AreCachedInUse kept proxies → AreCachedInUse (kept_put n reply kept) proxies
cached-put n created kept proxies used = cached-more kept n proxies used
cached-put n reply kept proxies used = used

pub cached-staged : (n : ℕ) (reply : Reply) (kept : List ℕ) (proxies : List Proxy) → AreCachedInUse kept proxies → AreCachedInUse (kept_staged n reply kept) proxies
cached-staged n staged kept proxies used = cached-more kept n proxies used
cached-staged n reply kept proxies used = used

-- ---- numbers go that are no file's
pub cached-still : (ns kept : List ℕ) (proxies : List Proxy) → ((n : ℕ) → 1 ≤ cached_with n proxies → count_of n ns ≡ 0) → AreCachedInUse kept proxies → AreCachedInUse (kept_without ns kept) proxies
cached-still ns kept proxies none used = used-still (λ (row : Row). row.blob.number) (λ (p : Proxy). p.files) ns kept proxies none used

-- ---- one more file
pub file-kept : (kept id : List ℕ) (row : Row) (proxies : List Proxy) → AreCachedInUse kept proxies → IsTrue (is_among row.blob.number kept)
    → AreCachedInUse kept (change_first (is_proxy id) (λ (p : Proxy). record p { files = with_row row p.files }) proxies)
file-kept kept id row proxies used new =
    all-change_first (λ (p : Proxy). RowsUsed kept p.files) (is_proxy id) (λ (p : Proxy). record p { files = with_row row p.files }) (λ p so. row-more kept row p.files new so) proxies used

-- a change that leaves the files of a proxy
pub other-kept : (kept id : List ℕ) (f : Proxy → Proxy) → ((p : Proxy) → (f p).files ≡ p.files) → (proxies : List Proxy) → AreCachedInUse kept proxies → AreCachedInUse kept (change_first (is_proxy id) f proxies)
other-kept kept id f same proxies used = all-change_first (λ (p : Proxy). RowsUsed kept p.files) (is_proxy id) f (λ p so. subst (RowsUsed kept) (sym (same p)) so) proxies used
