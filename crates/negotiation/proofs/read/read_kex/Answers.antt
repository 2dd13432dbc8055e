use Rattle.negotiation.proofs.OwnLaws.{read_invalid, entry_laws, rows_out, rows_on}
use Rattle.negotiation.proofs.read.read_kex.Goals as goal

pub returns-in_err-fill_lists : goal.returns-in_err-fill_lists
returns-in_err-fill_lists c = read_invalid _ _ _ _ _ c.in_err-fill_lists.ensures.lists c.from_residual.ensures

pub returns-then-p-gt-MAXIMUM_KEXINIT : goal.returns-then-p-gt-MAXIMUM_KEXINIT
returns-then-p-gt-MAXIMUM_KEXINIT c = search (entry_laws, c.in_ok-fill_lists.ensures.lists)

pub returns-then-p-lt-FIRST_LIST : goal.returns-then-p-lt-FIRST_LIST
returns-then-p-lt-FIRST_LIST c = search (entry_laws, c.in_ok-fill_lists.ensures.lists)

pub returns-in_err-rows : goal.returns-in_err-rows
returns-in_err-rows c =
    rows_out _ _ _ _ c.in_ok-fill_lists.ensures.lists c.if-p-gt-MAXIMUM_KEXINIT.false c.if-p-lt-FIRST_LIST.false _ c.columns-names.ensures
    _ _ c.strict_name.ensures _ c.contains-asked.ensures.value _ c.other.ensures c.strict_name-2.ensures
    _ _ _ _ _ c.deref.ensures.0 c.deref-2.ensures.0 c.deref-3.ensures.0 c.deref-4.ensures.0 c.deref-5.ensures.0
    _ c.read_rows.ensures _ c.branch-rows.ensures _ _ c.in_err-rows.is c.from_residual-in_err-rows.ensures

pub returns : goal.returns
returns c =
    rows_on _ _ _ _ c.in_ok-fill_lists.ensures.lists c.if-p-gt-MAXIMUM_KEXINIT.false c.if-p-lt-FIRST_LIST.false _ c.columns-names.ensures
    _ _ c.strict_name.ensures _ c.contains-asked.ensures.value _ c.other.ensures c.strict_name-2.ensures
    _ _ _ _ _ c.deref.ensures.0 c.deref-2.ensures.0 c.deref-3.ensures.0 c.deref-4.ensures.0 c.deref-5.ensures.0
    _ c.read_rows.ensures _ c.branch-rows.ensures _ _ c.in_ok-rows.is c.record.ensures
