-- The program's command is one of which `clap`'s contract is exact.
use Rattle.std.proofs.Common.{◌≡◌, true, refl}
use Rattle.clap.specs.Faults.{is_simple_and_free}
use Rattle.clap.specs.Simple.{is_simple}
use Rattle.sn_command.specs.Syntax.{sn_app, sn_top, seal_shape, open_shape, show_shape, replay_shape, gen_shape, serve_shape, register_shape, sign_in_shape, sync_shape, change_password_shape, put_shape, edit_shape, delete_shape, list_shape, with_accounts, with_devices, with_others}

pub free : is_simple_and_free sn_app ≡ true
unfolding sn_app sn_top seal_shape open_shape show_shape replay_shape gen_shape serve_shape register_shape sign_in_shape sync_shape change_password_shape put_shape edit_shape delete_shape list_shape with_accounts with_devices with_others
free = refl

pub simple : is_simple sn_app ≡ true
unfolding sn_app sn_top seal_shape open_shape show_shape replay_shape gen_shape serve_shape register_shape sign_in_shape sync_shape change_password_shape put_shape edit_shape delete_shape list_shape with_accounts with_devices with_others
simple = refl
