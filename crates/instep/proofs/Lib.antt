pub mod Forms
pub mod Alike
pub mod BackInStep
pub mod WhatIsDelivered
pub mod WrongReaders
pub mod ForOperators
pub mod WhatIsRead
pub mod WhatIsRemembered
