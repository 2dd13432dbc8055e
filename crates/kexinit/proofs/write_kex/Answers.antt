-- `kexinit::write_kex`: what is refused before anything is put, and the whole. Assumes nothing.
use Rattle.kexinit.proofs.KexLaws.{kex_tables, kex_cookie, kex_put}
use Rattle.kexinit.proofs.write_kex.Goals as goal

pub returns-in_err-fill_lists : goal.returns-in_err-fill_lists
returns-in_err-fill_lists c =
    let both = kex_tables _ _ _ _ _ c.in_err-fill_lists.ensures.lists c.from_residual.ensures in
    record { answer = both.0; bytes = both.1 }

pub returns-then-cookie-ne-COOKIE : goal.returns-then-cookie-ne-COOKIE
returns-then-cookie-ne-COOKIE c =
    let both = kex_cookie _ _ _ c.if-cookie-ne-COOKIE.true in
    record { answer = both.0; bytes = both.1 }

pub returns : goal.returns
returns c =
    let both = kex_put _ _ _ _ c.in_ok-fill_lists.ensures.lists c.if-cookie-ne-COOKIE.false _ c.columns-names.ensures _ _
    (c.write.ensures.answer, c.write.ensures.bytes) in
    record { answer = both.0; bytes = both.1 }
