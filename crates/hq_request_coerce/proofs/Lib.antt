mod Lists
mod Operations
mod NoNames
mod Steps
mod ValueSteps
