-- Why no head came.
use Rattle.sn_http.specs.declared.carry.FillError.{FillError}
use Rattle.sn_http.specs.declared.carry.FillError.TheVariants.{Failed, Memory}
use Rattle.sn_http.specs.declared.message.NoHead.{NoHead}
use Rattle.sn_http.specs.declared.message.NoHead.TheVariants.{Failed as ReadFailed, Memory as NoMemory}

abbrev pub no_head_of : FillError → NoHead
no_head_of Failed = ReadFailed
no_head_of Memory = NoMemory
